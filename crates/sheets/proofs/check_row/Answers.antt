use mathlib.Core.Path.{sym}
use lib.Seq.{length-take-le}
use native.Mathlib.Omega.{arith}
use Rattle.chars.specs.Pick.{pick}
use Rattle.sheets.specs.Rows.{checked_row}
use borrow.Author.Tests.{lt-ltb, le-ltb, eq-eqb, ne_eqb}
use Rattle.sheets.proofs.check_row.Goals as goal

pub slice_bounds-utf8_end-end : goal.slice_bounds-utf8_end-end
slice_bounds-utf8_end-end c = sym (length-take-le _ _ (omega arith))

pub returns-then-good-end : goal.returns-then-good-end
unfolding checked_row pick
returns-then-good-end c =
    simp (eq-eqb _ _ c.if-count-width.true, ← c.utf8_end-good.ensures, lt-ltb _ _ c.if-good-end.true)

pub returns-then-any_long : goal.returns-then-any_long
unfolding checked_row pick
returns-then-any_long c =
    simp (eq-eqb _ _ c.if-count-width.true, ← c.utf8_end-good.ensures, le-ltb _ _ c.if-good-end.false, ← c.any_long.ensures, c.if-any_long.true)

pub returns-then-count-width : goal.returns-then-count-width
unfolding checked_row pick
returns-then-count-width c =
    simp (eq-eqb _ _ c.if-count-width.true, ← c.utf8_end-good.ensures, le-ltb _ _ c.if-good-end.false, ← c.any_long.ensures, c.if-any_long.false)

pub returns : goal.returns
unfolding checked_row pick
returns c = simp (ne_eqb _ _ c.if-count-width.false)
