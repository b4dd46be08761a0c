-- The bounds, with literal answers: a row of 65,536 bytes is read, and one that has no end within them is not. Assumes nothing.
use mathlib.Core.Path.{◌≡◌, refl, sym, ap, ◌∙◌}
use mathlib.Core.Bool.{true, false}
use mathlib.Core.List.{List, [], ◌∷◌, ◌++◌}
use Prim.Native.Nat.{ℕ, ◌+◌}
use native.Mathlib.Omega.{arith}
use borrow.Author.Tests.{lt-ltb, le-ltb}
use lib.Dec.{eqb, ltb}
use lib.ListN.{length, take, length-append}
use lib.Seq.{take-append_seam}
use Rattle.chars.specs.Pick.{pick}
use Rattle.csv_rows.specs.declared.Separator.TheVariants.{Comma}
use Rattle.csv_rows.specs.declared.Fault.TheVariants.{TooLong}
use Rattle.csv_rows.specs.declared.RowRead.TheVariants.{Row, Endless}
use Rattle.csv_rows.specs.Reader.{is_special, equal, up_to}
use Rattle.csv_rows.specs.Answers.{window, is_cut, place_of, refused, answer_by, answer_of, answer}
use Rattle.csv_rows.specs.Grammar.{Plain, none, byte, plain, one, feed, row}
use Rattle.csv_rows.specs.Faults.{no_cells, no_end, OpenAt, unended, TooFar}
use Rattle.csv_rows.proofs.Pieces.{apart, or_left, or_right}
use Rattle.csv_rows.proofs.Whole.{accepted, far-line}

-- a cell of 65,535 bytes and its line feed
pub just-fits : (t r : List ℕ) → Plain 44 t → length t ≡ 65535 → answer 44 true (t ++ 10 ∷ r) ≡ Row 65536 1
just-fits t r p h =
    let l = length-append t (10 ∷ r) in
    (accepted Comma (t ++ 10 ∷ r) 65536 1).1
    (record {
      rest = r;
      places = record { start = 0; stop = 0 + length t } ∷ [];
      texts = t ∷ [];
      is_row = row (one (plain p)) feed;
      some = omega arith;
      counted = refl;
      few = omega arith;
      measured = omega arith;
      short = omega arith;
    })

no_feed : (b : ℕ) → is_special 44 b ≡ false → eqb b 10 ≡ false
unfolding is_special
no_feed b h = or_right (eqb b 44) (eqb b 10) (or_left _ _ h)

no-feeds : {t : List ℕ} → Plain 44 t → up_to (equal 10) t ≡ length t
unfolding up_to pick
no-feeds none = refl
no-feeds (byte {b} h p) = rw (no_feed b h, no-feeds p)

window-all : (t u : List ℕ) → length t ≡ 65536 → take 65536 (t ++ u) ≡ t
window-all t u h = ap (λ (n : ℕ). take n (t ++ u)) (sym h) ∙ take-append_seam t u

-- one byte more
pub just-too-far : (t r : List ℕ) → Plain 44 t → length t ≡ 65536 → answer 44 true (t ++ 10 ∷ r) ≡ Endless (TooLong 0)
unfolding answer answer_of answer_by is_cut refused place_of window pick
just-too-far t r p h =
    let l = length-append t (10 ∷ r) in
    let w = window-all t (10 ∷ r) h in
    let o : OpenAt 44 t [] 0 = unended no_cells (no_end (plain p)) in
    let f : TooFar 44 (t ++ 10 ∷ r) 0 = record { cells = []; long = omega arith; unended_in = rw w o } in
    let g = no-feeds p in
    let e : ltb (0 + up_to (equal 10) t) (length t) ≡ false = le-ltb (0 + up_to (equal 10) t) (length t) (omega arith) in
    rw (far-line (apart Comma) f, lt-ltb 65536 (length (t ++ 10 ∷ r)) (omega arith), w, e)
