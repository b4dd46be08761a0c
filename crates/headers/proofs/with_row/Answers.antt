use mathlib.Core.Path.{sym}
use lib.Seq.{length-take-le}
use native.Mathlib.Omega.{arith}
use Rattle.headers.specs.Header.{with_row}
use Rattle.chars.specs.Pick.{pick}
use borrow.Author.Tests.{lt-ltb, le-ltb}
use borrow.Author.Rules.{rules}
use Rattle.headers.proofs.with_row.Goals as goal

pub slice_bounds-utf8_end-end : goal.slice_bounds-utf8_end-end
slice_bounds-utf8_end-end c = sym (length-take-le _ _ (omega arith))

pub returns-then-good-end : goal.returns-then-good-end
unfolding with_row pick
returns-then-good-end c =
    simp (← c.utf8_end-good.ensures, lt-ltb _ _ c.if-good-end.true)

pub returns : goal.returns
unfolding with_row pick
returns c =
    simp (← c.utf8_end-good.ensures, le-ltb _ _ c.if-good-end.false, ← c.with_cells.ensures)
