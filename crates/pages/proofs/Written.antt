-- The text of a range in a buffer: its room, its parts one behind the other, and the writer's answers. Assumes nothing.
use mathlib.Core.Path.{◌≡◌, refl, sym, ap, ◌∙◌}
use mathlib.Core.Bool.{false}
use mathlib.Core.List.{List, [], ◌∷◌, ◌++◌}
use Prim.Native.Nat.{ℕ, ◌+◌, ◌≤◌, ◌<◌}
use native.Mathlib.Nat.{zero-add}
use native.Mathlib.Omega.{arith}
use borrow.Author.Tests.{le-leb, lt-leb}
use lib.ListN.{length, length-append}
use Rattle.chars.specs.Pick.{pick}
use Rattle.refusals.specs.declared.Kind.TheVariants.{NoRoom}
use Rattle.refusals.specs.Refusal.{file_span, refusal}
use Rattle.std.specs.Prelude.{Ok, Err}
use Rattle.puts.specs.Numbers.{digits, width, decimal}
use Rattle.puts.specs.Answers.{measured, decided, answer, left, afterwards, Put}
use Rattle.puts.proofs.Counts.{length_digits, length-decimal}
use Rattle.puts.proofs.Puts.{kept, both, as-text, at_front}
use Rattle.pages.specs.Text.{written_range}

pub length-range : (a b : ℕ) → length (written_range a b) ≡ width 1 a + 1 + width 1 b
unfolding written_range
length-range a b =
    omega (arith, length-append (decimal 1 a) ((0x2D ∷ []) ++ decimal 1 b), length-decimal 1 a, length-decimal 1 b)

module _ (a b : ℕ) {w v : ℕ} (ew : w ≡ width 1 a) (ev : v ≡ width 1 b) (l : List ℕ) where
  pub first-room : length (written_range a b) ≤ length l → 0 + length (digits w a) ≤ length l
  first-room h = omega (arith, ew, length-range a b, length_digits w a)

  pub hyphen-room : {m : List ℕ} {i : ℕ} → length (written_range a b) ≤ length l → Put (digits w a) l 0 m i → i + 1 ≤ length m
  hyphen-room h x = omega (arith, ew, length-range a b, length_digits w a, x.behind, kept x)

  pub second-room : {m p : List ℕ} {i j : ℕ} → length (written_range a b) ≤ length l → Put (digits w a) l 0 m i → Put (0x2D ∷ []) m i p j → j + length (digits v b) ≤ length p
  second-room h x y = omega (arith, ew, ev, length-range a b, length_digits w a, length_digits v b, x.behind, kept x, y.behind, kept y)

  pub joined : {m p q : List ℕ} {i j k : ℕ} → Put (digits w a) l 0 m i → Put (0x2D ∷ []) m i p j → Put (digits v b) p j q k → Put (written_range a b) l 0 q k
  unfolding written_range decimal
  joined x y z =
      both (as-text (ap (λ (n : ℕ). digits n a) (sym ew)) x) (both y (as-text (ap (λ (n : ℕ). digits n b) (sym ev)) z))

pub done : (t l : List ℕ) {m : List ℕ} {k : ℕ} → length t ≤ length l → Put t l 0 m k → (Ok k ≡ answer false t (length l)) × (m ≡ afterwards false t l)
unfolding answer decided measured afterwards left pick
done t l h p = rw (le-leb (length t) (length l) h) (ap Ok (p.behind ∙ zero-add (length t)), at_front h p)

pub no_room : (t l : List ℕ) → length l < length t → (Err (refusal NoRoom (file_span 0 0)) ≡ answer false t (length l)) × (l ≡ afterwards false t l)
unfolding answer decided measured afterwards left pick
no_room t l h = rw (lt-leb (length t) (length l) h) (refl, refl)
