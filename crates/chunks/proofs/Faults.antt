-- The first fault, by what stands at a place of a chunk.
-- Assumes nothing.
use mathlib.Core.Path.{◌≡◌}
use mathlib.Core.Bool.{true, false}
use mathlib.Core.List.{List}
use Prim.Native.Nat.{ℕ, ◌+◌}
use native.Mathlib.Nat.{add_assoc}
use lib.ListN.{drop}
use Rattle.chars.specs.Pick.{pick}
use Rattle.chars.specs.Utf8.{decode_at}
use Rattle.chars.specs.Classes.{is_admitted}
use Rattle.chars.specs.declared.Decoded.TheVariants.{Char, Bad, End}
use Rattle.refusals.specs.declared.Kind.TheVariants.{BadUtf8, UnsupportedChar}
use Rattle.refusals.specs.Refusal.{file_span, refusal}
use Rattle.std.specs.Prelude.{Ok, Err}
use Rattle.chunks.specs.Characters.{characters}
use Rattle.chunks.specs.Check.{fault_in}
use Rattle.chunks.proofs.Walk.{at-char, at-bad, at-end}

module _ (s : List ℕ) (at i : ℕ) where
  pub fault-on : {code n : ℕ} → decode_at s i ≡ Char code n → is_admitted code ≡ true → fault_in (at + i) (characters (drop i s)) ≡ fault_in (at + (i + n)) (characters (drop (i + n) s))
  unfolding fault_in pick
  fault-on e y = rw (at-char s i e, y, add_assoc)

  pub fault-high : {code n : ℕ} → decode_at s i ≡ Char code n → is_admitted code ≡ false → fault_in (at + i) (characters (drop i s)) ≡ Err (refusal UnsupportedChar (file_span (at + i) (at + i + n)))
  unfolding fault_in pick
  fault-high e y = rw (at-char s i e, y)

  pub fault-bad : decode_at s i ≡ Bad → fault_in (at + i) (characters (drop i s)) ≡ Err (refusal BadUtf8 (file_span (at + i) (at + i + 1)))
  unfolding fault_in
  fault-bad e = rw (at-bad s i e)

  pub fault-end : decode_at s i ≡ End → fault_in (at + i) (characters (drop i s)) ≡ (Ok tt)
  unfolding fault_in
  fault-end e = rw (at-end s i e)
