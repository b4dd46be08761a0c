-- The cells of a row are those that its table names. Assumes nothing.
use Rattle.csv_rows.specs.Answers.InOrder.{then_cell}
use Rattle.chars.specs.Pick.{pick}
use Rattle.headers.specs.Header.{own_of}
use Rattle.csv_rows.specs.Texts.{own_bytes}
use Rattle.csv_rows.specs.Answers.{listed, numbers, InOrder}
use borrow.Author.Tests.{le-leb, lt-ltb}
use lib.Seq.{drop-drop, get_or-drop, sets-eq, take_all}
use lib.ListN.{drop, get_or, length, take, length-drop}
use Rattle.headers.specs.Tables.{between, cell_at, cells_from}
use native.Mathlib.Omega.{arith}
use mathlib.Core.Path.{ap, refl, sym, ◌∙◌, ◌≡◌}
use native.Mathlib.Nat.{add-zero}
use Rattle.csv_rows.specs.Reader.{Line, Place}
use mathlib.Core.List.{◌++◌, List, [], ◌∷◌}
use Prim.Native.Nat.{◌*◌, ◌+◌, suc, ℕ, ◌≤◌, ◌-◌}

-- what is between such places
between_is : (s : List ℕ) (c : Place) → c.start ≤ c.stop → c.stop ≤ length s → between s c.start c.stop ≡ own_bytes s c
unfolding between own_bytes pick
between_is s c h k = rw (le-leb c.stop (length s) k, le-leb c.start c.stop h)

module _ (s t : List ℕ) where
  -- the numbers of a cell at the front of what the table has from a place on
  start_is : (k : ℕ) {a b : ℕ} {l : List ℕ} → drop k t ≡ a ∷ b ∷ l → get_or t k 0 ≡ a
  start_is k e = ap (λ (j : ℕ). get_or t j 0) (sym (add-zero k)) ∙ sym (get_or-drop k t 0 0) ∙ ap (λ (l : List ℕ). get_or l 0 0) e

  stop_is : (k : ℕ) {a b : ℕ} {l : List ℕ} → drop k t ≡ a ∷ b ∷ l → get_or t (k + 1) 0 ≡ b
  stop_is k e = sym (get_or-drop k t 1 0) ∙ ap (λ (l : List ℕ). get_or l 1 0) e

  cells-from : (cs : List Place) {low : ℕ} (i : ℕ) (rest : List ℕ) → drop (2 * i) t ≡ numbers cs ++ rest → i + length cs ≤ 256 → InOrder low (length s) cs
      → cells_from s t i (length cs) ≡ own_of s cs
  unfolding cells_from own_of numbers cell_at pick
  cells-from [] i rest e h n = refl
  cells-from (c ∷ cs) i rest e h (then_cell o a b n) =
      let k : 2 * suc i ≡ 2 * i + 2 = omega arith in
      rw (lt-ltb i 256 (omega arith), start_is (2 * i) e, stop_is (2 * i) e, between_is s c a b)
      (ap (λ (l : List (List ℕ)). own_bytes s c ∷ l)
      (cells-from cs (suc i) rest (rw k (sym (drop-drop 2 (2 * i) t) ∙ ap (λ (l : List ℕ). drop 2 l) e)) (omega arith) n))

numbers-length : (cs : List Place) → length (numbers cs) ≡ 2 * length cs
unfolding numbers
numbers-length [] = refl
numbers-length (c ∷ cs) = omega (arith, numbers-length cs)

-- the table of a row
pub cells_are : (s table : List ℕ) (l : Line) → length table ≡ 512 → length l.cells ≤ 256 → InOrder 0 (length s) l.cells
    → cells_from s (listed l table) 0 (length l.cells) ≡ own_of s l.cells
unfolding listed
cells_are s table l w h n =
    let cs = l.cells in
    let f : take 256 cs ≡ cs = take_all 256 cs h in
    let g : 0 + length (numbers cs) ≤ length table = omega (arith, numbers-length cs) in
    cells-from s _ cs 0 (drop (0 + length (numbers cs)) table) (rw f (sets-eq (numbers cs) table 0 g)) (omega arith) n

-- what is lent behind a place
pub rest-is : (s : List ℕ) (n : ℕ) → take (length s - n) (drop n s) ≡ drop n s
rest-is s n = take_all (length s - n) (drop n s) (omega (arith, length-drop n s))
