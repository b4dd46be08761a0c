-- The numbers at the end of a report are those of its lines, sort by sort, and it has no other lines. Assumes nothing.
use mathlib.Core.Path.{◌≡◌, refl}
use mathlib.Core.Bool.{true, false}
use mathlib.Core.List.{List, [], ◌++◌}
use Prim.Native.Nat.{ℕ, ◌+◌}
use native.Mathlib.Omega.{arith}
use Rattle.chars.specs.Ascii.{ascii}
use Rattle.runs.specs.Pieces.{Piece, all_texts, Reading}
use Rattle.csv_rows.specs.declared.Separator.{Separator}
use Rattle.headers.specs.declared.Columns.{Columns}
use Rattle.headers.specs.declared.Header.TheVariants.{With}
use Rattle.headers.specs.Header.{header}
use Rattle.findings.specs.Words.{capped}
use Rattle.findings.specs.Sorts.{is_same, lines_of_sort}
use Rattle.findings.proofs.Shape.{occurs, occurs-append, summary-two}
use Rattle.findings.proofs.Sorts.{summary-sorts}
use Rattle.sheets.specs.declared.Tally.{Tally}
use Rattle.sheets.specs.declared.State.{State}
use Rattle.sheets.specs.Steps.{last_lines, next, fresh}
use Rattle.sheets.specs.Reports.{report}
use Rattle.sheets.specs.Ends.{EndsWith}
use Rattle.sheets.specs.Sorts.{otherwise_lines, refused_lines, bad_lines, CountsLines}
use Rattle.sheets.proofs.Theorems.{pieces_of}
use Rattle.sheets.proofs.Amounts.{capped_is, Raised}
use Rattle.sheets.proofs.Counts.{lines-added}
use Rattle.sheets.proofs.Safe.{read-report}

-- the two last lines have no sort
none_last : (kind : List ℕ) → is_same kind [] ≡ false → (t : Tally) → lines_of_sort kind (last_lines t) ≡ 0
none_last kind e t = summary-sorts kind e t.rows t.strict t.otherwise t.refused t.bad

-- what is counted from nothing on is the number, up to the largest
counted-lines : {k n m : ℕ} → Raised k 0 n → m ≡ k → n ≡ capped m
counted-lines {k} {n} {m} a e = omega (arith, a.sum, a.within (omega arith), capped_is n, capped_is (0 + k), capped_is m)

module _ {at : State} {s left lastly : List ℕ} {ps : List (Piece State)} (r : Reading next fresh s ps at left lastly) (t : Tally) where
  reading-sorts : CountsLines (all_texts ps ++ last_lines t) at.tally
  unfolding fresh is_same
  reading-sorts =
      let a = lines-added r in
      let c = a.counts in
      let b = a.said in
      let u = last_lines t in
      record {
        of_otherwise =
            counted-lines c.in_otherwise
            (omega (arith, b.says_otherwise u, none_last (ascii "not strict") refl t, none_last (ascii "short year") refl t));
        of_refused = counted-lines c.in_refused (omega (arith, b.says_refused u, none_last (ascii "refused") refl t));
        of_bad = counted-lines c.in_bad (omega (arith, b.says_bad u, none_last (ascii "bad row") refl t));
      }

  reading-all : occurs 10 (all_texts ps ++ last_lines t)
      ≡ otherwise_lines (all_texts ps ++ last_lines t) + refused_lines (all_texts ps ++ last_lines t) + bad_lines (all_texts ps ++ last_lines t) + 2
  unfolding is_same
  reading-all =
      let b = (lines-added r).said in
      let u = last_lines t in
      omega (
        arith,
        occurs-append 10 (all_texts ps) u,
        b.says_lines,
        summary-two t.rows t.strict t.otherwise t.refused t.bad,
        b.says_otherwise u,
        none_last (ascii "not strict") refl t,
        none_last (ascii "short year") refl t,
        b.says_refused u,
        none_last (ascii "refused") refl t,
        b.says_bad u,
        none_last (ascii "bad row") refl t,
      )

-- a file whose header can be used
module _ (s : List ℕ) {bytes cells : ℕ} {sep : Separator} {columns : Columns} (h : header true s ≡ With bytes sep columns cells) where
  -- the numbers at the end of its report are those of its lines, sort by sort
  pub sorts-counted : (t : Tally) × EndsWith s t × CountsLines (report s) t
  sorts-counted =
      let r = pieces_of s in
      let t = r.at.tally in
      let q = read-report h r in
      (t, record { lines = all_texts r.pieces; is = q }, rw q (reading-sorts r.reading t))

  -- and it has no line but these and the two at its end
  pub sorts-all : occurs 10 (report s) ≡ otherwise_lines (report s) + refused_lines (report s) + bad_lines (report s) + 2
  sorts-all = let r = pieces_of s in rw (read-report h r) (reading-all r.reading r.at.tally)
