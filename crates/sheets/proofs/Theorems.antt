-- However an import file is cut into blocks, what is written is the report on it; and the report is what is said of each row, in order.
-- Assumes nothing.
use mathlib.Core.Path.{◌≡◌}
use mathlib.Core.Bool.{true, false}
use mathlib.Core.List.{List, ◌++◌}
use Prim.Native.Nat.{ℕ}
use Rattle.runs.specs.Runs.{Ended}
use Rattle.runs.specs.Pieces.{Piece, all_bytes, all_texts, Reading}
use Rattle.runs.proofs.Theorems.{all-of-it, ends-early, cut-anyhow}
use Rattle.runs.proofs.Pieces.{Read, Filled, is_read, each-once, all_there, none-empty, no-others}
use Rattle.sheets.specs.declared.State.{State}
use Rattle.sheets.specs.Steps.{next, fresh}
use Rattle.sheets.specs.Reports.{report}
use Rattle.sheets.proofs.Steady.{steady}

-- a run over a file to its end wrote the report on it
pub report-said : {s w : List ℕ} → Ended next fresh true s w → w ≡ report s
unfolding report
report-said r = all-of-it steady r

-- two runs over a file wrote the same, however each was cut
pub report-anyhow : {s w w' : List ℕ} → Ended next fresh true s w → Ended next fresh true s w' → w ≡ w'
report-anyhow r q = cut-anyhow steady r q

-- a run that is over before the file's end wrote the report on the file, whatever follows
pub report-early : {s w : List ℕ} → Ended next fresh false s w → (rest : List ℕ) → w ≡ report (s ++ rest)
unfolding report
report-early r rest = ends-early steady r rest

-- every file has its pieces: its header, its rows, and parts of lines that are skipped
pub pieces_of : (s : List ℕ) → Read next fresh s
pieces_of s = is_read steady fresh s

module _ {s left lastly : List ℕ} {at : State} {ps : List (Piece State)} (r : Reading next fresh s ps at left lastly) where
  -- the report is what is said of each of them, once and in order, and what it ends with
  pub report-pieces : report s ≡ all_texts ps ++ lastly
  unfolding report
  report-pieces = each-once steady r

  -- one behind the other they are the file
  pub file-pieces : s ≡ all_bytes ps ++ left
  file-pieces = all_there steady r

  -- each has a byte at least
  pub full-pieces : Filled ps
  full-pieces = none-empty steady r

  -- and there are no others
  pub same-pieces : {left' lastly' : List ℕ} {at' : State} {ps' : List (Piece State)} → Reading next fresh s ps' at' left' lastly'
      → (ps ≡ ps') × (at ≡ at') × (left ≡ left') × (lastly ≡ lastly')
  same-pieces q = no-others r q
