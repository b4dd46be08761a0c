-- What is written is read back. Assumes nothing.
use mathlib.Core.Path.{◌≡◌, refl, sym, ap, subst}
use mathlib.Core.Bool.{Bool, true, false, false≢true, ◌||◌}
use mathlib.Core.List.{List, [], ◌∷◌, ◌++◌, append_assoc}
use Prim.Native.Nat.{ℕ, suc, ◌+◌, ◌≤◌}
use native.Mathlib.Omega.{arith}
use borrow.Author.Tests.{eqb-true}
use lib.Dec.{eqb}
use lib.ListN.{length, length-append}
use Rattle.chars.specs.Pick.{pick}
use Rattle.chars.proofs.Cases.{of_test}
use Rattle.csv_rows.specs.declared.Separator.{Separator}
use Rattle.csv_rows.specs.Reader.{byte_of, is_special, Place}
use Rattle.csv_rows.specs.Answers.{line_of, answer}
use Rattle.csv_rows.specs.declared.RowRead.TheVariants.{Row}
use Rattle.csv_rows.specs.Texts.{texts_of}
use Rattle.csv_rows.specs.Grammar.{Plain, none, byte, Inner, nothing, other, doubled, OneCell, plain, quoted, Cells, one, more, return_feed, RowAt, row, Limited}
use Rattle.csv_rows.specs.Written.{doubles, any_special, cell_text, cells_text, Texts, file_text, rows_of, FileOf, no_rows, rows}
use Rattle.csv_rows.proofs.CellTexts.{unique, row-texts}
use Rattle.csv_rows.proofs.Whole.{accepted, accepted-cells}

doubles-inner : (t : List ℕ) → Inner (doubles t) t
unfolding doubles pick
doubles-inner [] = nothing
doubles-inner (b ∷ t) = of_test (eqb b 34) (λ q. rw (q, eqb-true b 34 q) (doubled (doubles-inner t))) (λ q. rw q (other q (doubles-inner t)))

or_parts : (p q : Bool) → p || q ≡ false → (p ≡ false) × (q ≡ false)
or_parts true q e = absurd (false≢true (sym e))
or_parts false q e = (refl, e)

plainly : (sep : ℕ) (t : List ℕ) → any_special sep t ≡ false → Plain sep t
unfolding any_special
plainly sep [] e = none
plainly sep (b ∷ t) e = let p = or_parts (is_special sep b) (any_special sep t) e in byte p.0 (plainly sep t p.1)

-- the texts of a row that is answered are those that are derived
pub accepted-texts : (k : Separator) (s : List ℕ) {end count : ℕ} (l : Limited (byte_of k) s end count) → texts_of s (line_of (byte_of k) true s).cells ≡ l.texts
accepted-texts k s l = rw (accepted-cells k s l) (row-texts l.is_row)

-- some places, for a written cell and for written cells
pub record CellBack (sep at : ℕ) (t : List ℕ) : Type 0 where
  pub place : Place
  pub derived : OneCell sep at (cell_text sep t) place t

cell-back : (sep at : ℕ) (t : List ℕ) → CellBack sep at t
unfolding cell_text pick
cell-back sep at t =
    of_test (any_special sep t)
    (λ q. record { place = record { start = at + 1; stop = at + 1 + length (doubles t) }; derived = rw q (quoted (doubles-inner t)) })
    (λ q. record { place = record { start = at; stop = at + length t }; derived = rw q (plain (plainly sep t q)) })

pub record CellsBack (sep at : ℕ) (t : List ℕ) (ts : List (List ℕ)) : Type 0 where
  pub places : List Place
  pub derived : Cells sep at (cells_text sep t ts) places (t ∷ ts)

cells-back : (sep at : ℕ) (t : List ℕ) (ts : List (List ℕ)) → CellsBack sep at t ts
unfolding cells_text
cells-back sep at t [] = let c = cell-back sep at t in record { places = c.place ∷ []; derived = one c.derived }
cells-back sep at t (u ∷ ts) =
    let c = cell-back sep at t in
    let d = cells-back sep (at + length (cell_text sep t) + 1) u ts in
    record { places = c.place ∷ d.places; derived = more c.derived d.derived }

-- written rows are the rows of the file
pub written-rows : (sep : ℕ) (ls : List Texts) → FileOf sep (file_text sep ls) (rows_of ls)
unfolding file_text rows_of
written-rows sep [] = no_rows
written-rows sep (l ∷ ls) =
    let d = cells-back sep 0 l.head l.tail in
    let t = cells_text sep l.head l.tail in
    let e : (t ++ 13 ∷ 10 ∷ []) ++ file_text sep ls ≡ t ++ 13 ∷ 10 ∷ file_text sep ls = append_assoc t (13 ∷ 10 ∷ []) (file_text sep ls) in
    let n = length-append t (13 ∷ 10 ∷ file_text sep ls) in
    rw e (rows {s = t ++ 13 ∷ 10 ∷ file_text sep ls} (omega arith) (row d.derived return_feed) (written-rows sep ls))

-- and no others
pub file-unique : (k : Separator) {s : List ℕ} {rs rs' : List (List (List ℕ))} → FileOf (byte_of k) s rs → FileOf (byte_of k) s rs' → rs ≡ rs'
file-unique k no_rows no_rows = refl
file-unique k no_rows (rows h d f) = absurd (omega arith)
file-unique k (rows h d f) no_rows = absurd (omega arith)
file-unique k (rows {ts = ts} h d f) (rows {ts = ts'} {rs = qs} h' e g) =
    let u = unique k d e in
    let i = file-unique k f (subst (λ (l : List ℕ). FileOf (byte_of k) l qs) (sym u.0) g) in
    rw (u.2, i)

-- so many places as texts
same_count : {sep at : ℕ} {s : List ℕ} {cs : List Place} {ts : List (List ℕ)} → Cells sep at s cs ts → length cs ≡ length ts
same_count (one o) = refl
same_count (more o d) = ap suc (same_count d)

-- a written row is read back by the reader, whatever follows it
pub row_back : (k : Separator) (t : List ℕ) (ts : List (List ℕ)) (r : List ℕ) → length (cells_text (byte_of k) t ts) + 2 ≤ 65536 → suc (length ts) ≤ 256
    → (answer (byte_of k) true (cells_text (byte_of k) t ts ++ 13 ∷ 10 ∷ r) ≡ Row (length (cells_text (byte_of k) t ts) + 2) (suc (length ts)))
    × (texts_of (cells_text (byte_of k) t ts ++ 13 ∷ 10 ∷ r) (line_of (byte_of k) true (cells_text (byte_of k) t ts ++ 13 ∷ 10 ∷ r)).cells ≡ t ∷ ts)
row_back k t ts r h n =
    let d = cells-back (byte_of k) 0 t ts in
    let x = cells_text (byte_of k) t ts in
    let w : RowAt (byte_of k) (x ++ 13 ∷ 10 ∷ r) r d.places (t ∷ ts) = row d.derived return_feed in
    let l = length-append x (13 ∷ 10 ∷ r) in
    let m : Limited (byte_of k) (x ++ 13 ∷ 10 ∷ r) (length x + 2) (suc (length ts)) =
    record { rest = r; places = d.places; texts = t ∷ ts; is_row = w; some = omega arith; counted = same_count d.derived; few = n; measured = omega arith; short = h }
    in
    ((accepted k (x ++ 13 ∷ 10 ∷ r) (length x + 2) (suc (length ts))).1 m, rw (accepted-cells k (x ++ 13 ∷ 10 ∷ r) m) (row-texts w))
