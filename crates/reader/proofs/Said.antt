-- What is said at once is what a reader answers, in words. Assumes nothing.
use mathlib.Core.Path.{◌≡◌, refl, sym, ap, subst, ◌∙◌}
use mathlib.Core.Bool.{true, false, ◌||◌}
use mathlib.Core.List.{List}
use Prim.Native.Nat.{ℕ}
use lib.Dec.{ltb, leb}
use lib.ListN.{get_or, length, take}
use Rattle.chars.specs.Pick.{pick}
use Rattle.datefield.specs.Text.{last_byte, unmarked, is_uncertain, is_approximate}
use Rattle.codes.specs.Points.{on_some, point_of}
use Rattle.codes.specs.Texts.{is_slash, slash_of, value_of, written, unspaced}
use Rattle.codes.specs.Ported.{ported, moved_by}
use Rattle.codes.specs.Lists.{one_normal, is_joined, list_written, list_ported}
use Rattle.codes.specs.Spaced.{list_spaced, list_usual}
use Rattle.dates.specs.declared.Date.{Date}
use Rattle.refusals.specs.declared.Refusal.{Refusal}
use Rattle.std.specs.Prelude.{Result, Option, None, Some}
use Rattle.codes.specs.declared.Words.{Words}
use Rattle.codes.specs.Words.{nothing, words_or, words_of}
use Rattle.codes.specs.Typed.{Typed}
use Rattle.codes.proofs.Laws.{told}

-- the words of an answer, and that its numbers are of their types
abbrev pub Answers : Words → Result Date Refusal → Type 0
Answers w y = (w ≡ words_of y) × Typed y

-- of the same answer
pub carried : {w : Words} (x y : Result Date Refusal) → x ≡ y → Answers w x → Answers w y
carried {w} x y e h = subst (Answers w) e h

-- what is said at once, if anything is
pub at_once : (x : Option (Result Date Refusal)) {w : Words} (y : Result Date Refusal) → w ≡ words_or x → (w.last ≡ nothing → ⊥) → ((r : Result Date Refusal) → x ≡ Some r → y ≡ r) → ((r : Result Date Refusal) → x ≡ Some r → Typed r)
    → Answers w y
at_once x {w} y e h same typed =
    let t = told x (λ z. h (ap (λ (v : Words). v.last) e ∙ z)) in
    carried t.0 y (sym (same t.0 t.1)) (e ∙ ap words_or t.1, typed t.0 t.1)

-- of which lists something is said at once
module _ (b table : List ℕ) where
  pub whole-written : (one_normal b table || is_joined b table) ≡ true → written b ≡ list_written b table
  unfolding list_written pick
  whole-written e = rw e

  pub none_written : (one_normal b table || is_joined b table) ≡ false → None ≡ list_written b table
  unfolding list_written pick
  none_written e = rw e

  pub normal-ported : one_normal b table ≡ true → pick (ltb (get_or table 2 0) 0x8000000000000000) (on_some (ported b) λ r. Some (moved_by (get_or table 2 0) r)) None ≡ list_ported b table
  unfolding list_ported pick
  normal-ported e = rw e

  pub none-ported : one_normal b table ≡ false → None ≡ list_ported b table
  unfolding list_ported pick
  none-ported e = rw e

  pub spaced-usual : one_normal b table ≡ true → leb (length b) 4096 ≡ true → written (unspaced b) ≡ list_usual b table
  unfolding list_usual list_spaced pick
  spaced-usual e h = rw (e, h)

  pub long-usual : one_normal b table ≡ true → leb (length b) 4096 ≡ false → None ≡ list_usual b table
  unfolding list_usual list_spaced pick
  long-usual e h = rw (e, h)

  pub joined-usual : one_normal b table ≡ false → is_joined b table ≡ true → written b ≡ list_usual b table
  unfolding list_usual list_written pick
  joined-usual e h = rw (e, h)

  pub none-usual : one_normal b table ≡ false → is_joined b table ≡ false → None ≡ list_usual b table
  unfolding list_usual list_written pick
  none-usual e h = rw (e, h)

-- no text says nothing
pub nothing_written : (s : List ℕ) → written (take 0 s) ≡ None
unfolding pick point_of on_some last_byte unmarked is_uncertain is_approximate is_slash slash_of value_of written
nothing_written s = refl
