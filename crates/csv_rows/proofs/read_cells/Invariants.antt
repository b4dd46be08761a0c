use mathlib.Core.Path.{refl, sym, ◌∙◌}
use Prim.Native.Nat.{◌-◌, ◌≤◌}
use lib.ListN.{length, drop}
use Rattle.csv_rows.specs.declared.Ending.TheVariants.{Through, Fails, Open}
use Rattle.csv_rows.specs.Reader.{line, line_from}
use Rattle.csv_rows.specs.Scans.{end_place}
use Rattle.csv_rows.proofs.Laws.{is-inside}
use Rattle.csv_rows.proofs.Places.{good-bounds, wrong-bounds, more-at, last-at, line-wrong, line-open}
use Rattle.csv_rows.proofs.Reading.{Reading, reading-start, reading_step, reading-end}
use borrow.Author.Rules.{rules}
use native.Mathlib.Omega.{arith}
use Rattle.csv_rows.proofs.read_cells.Given as goal

abbrev pub invariant-loop-start : goal.invariant-loop-start
invariant-loop-start l = Reading (line l.over l.sep l.s) (line_from l.over l.sep 0 l.at (drop l.at l.s)) l.initial.table l.table l.count × (l.at ≤ length l.s) × (l.count ≤ l.at)

abbrev pub decreases-loop-start : goal.decreases-loop-start
decreases-loop-start l = length l.s - l.at
