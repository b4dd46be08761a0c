use mathlib.Core.Path.{refl, sym, ◌∙◌}
use Prim.Native.Nat.{◌-◌, ◌≤◌}
use lib.ListN.{length, drop}
use Rattle.csv_rows.specs.declared.Ending.TheVariants.{Through, Fails, Open}
use Rattle.csv_rows.specs.Reader.{line, line_from}
use Rattle.csv_rows.specs.Scans.{end_place}
use Rattle.csv_rows.proofs.Laws.{is-inside}
use Rattle.csv_rows.proofs.Places.{good-bounds, wrong-bounds, more-at, last-at, line-wrong, line-open}
use Rattle.csv_rows.proofs.Reading.{Reading, reading-start, reading_step, reading-end}
use borrow.Author.Rules.{rules}
use native.Mathlib.Omega.{arith}
use Rattle.csv_rows.proofs.read_cells.Goals as goal

pub loop-start-init : goal.loop-start-init
unfolding line
loop-start-init c = (reading-start _ _ c.requires.0, omega arith, omega arith)

pub put_cell-requires : goal.put_cell-requires
put_cell-requires c = c.loop-start.invariant.0.long

pub overflow_add-at : goal.overflow_add-at
overflow_add-at c =
    let a = c.args in
    let k = c.cell_at in
    let q = sym k.ensures ∙ c.in-Good.is in
    let i = is-inside a.sep a.s.now c.in-Good.next (sym c.is_at.ensures ∙ c.if-is_at.true) in
    omega arith

pub loop-start-smaller : goal.loop-start-smaller
loop-start-smaller c =
    let a = c.args in
    let k = c.cell_at in
    let q = sym k.ensures ∙ c.in-Good.is in
    let g = good-bounds a.over a.sep c.loop-start.at a.s.now c.loop-start.invariant.1 q in
    let i = is-inside a.sep a.s.now c.in-Good.next (sym c.is_at.ensures ∙ c.if-is_at.true) in
    omega arith

pub loop-start-preserved : goal.loop-start-preserved
loop-start-preserved c =
    let a = c.args in
    let k = c.cell_at in
    let q = sym k.ensures ∙ c.in-Good.is in
    let g = good-bounds a.over a.sep c.loop-start.at a.s.now c.loop-start.invariant.1 q in
    let t = sym c.is_at.ensures ∙ c.if-is_at.true in
    let i = is-inside a.sep a.s.now c.in-Good.next t in
    (reading_step _ _ _ c.put_cell.ensures (more-at a.over a.sep c.loop-start.at a.s.now c.loop-start.invariant.1 q t) c.loop-start.invariant.0, omega arith, omega arith)

pub returns-else-is_at : goal.returns-else-is_at
unfolding end_place
returns-else-is_at c =
    let a = c.args in
    let k = c.cell_at in
    let q = sym k.ensures ∙ c.in-Good.is in
    let g = good-bounds a.over a.sep c.loop-start.at a.s.now c.loop-start.invariant.1 q in
    let t = sym c.is_at.ensures ∙ c.if-is_at.false in
    reading-end (Through _) (length a.s.now) refl (reading_step _ _ _ c.put_cell.ensures (last-at a.over a.sep c.loop-start.at a.s.now c.loop-start.invariant.1 q t) c.loop-start.invariant.0) g.3

pub returns-in-Wrong : goal.returns-in-Wrong
unfolding end_place
returns-in-Wrong c =
    let a = c.args in
    let q = sym c.cell_at.ensures ∙ c.in-Wrong.is in
    let g = wrong-bounds a.over a.sep c.loop-start.at a.s.now c.loop-start.invariant.1 q in
    reading-end (Fails _) (length a.s.now) (line-wrong a.over a.sep c.loop-start.at (drop c.loop-start.at a.s.now) q) c.loop-start.invariant.0 g.1

pub returns-in-Unclear : goal.returns-in-Unclear
unfolding end_place
returns-in-Unclear c =
    let a = c.args in
    let q = sym c.cell_at.ensures ∙ c.in-Unclear.is in
    reading-end (Open _) (length a.s.now) (line-open a.over a.sep c.loop-start.at (drop c.loop-start.at a.s.now) q) c.loop-start.invariant.0 c.loop-start.invariant.1
