use Rattle.writer.proofs.Pieces.{negative-length, plain-length}
use native.Mathlib.Omega.{arith}
use borrow.Author.Rules.{rules}
use Rattle.writer.proofs.year_length.Goals as goal

pub overflow_add-result : goal.overflow_add-result
overflow_add-result c = omega (arith, c.width-w.ensures.upper_bound (omega arith))

pub returns-then-year-lt0 : goal.returns-then-year-lt0
returns-then-year-lt0 c =
    (negative-length c.args.year c.ranges.year c.magnitude.ensures c.width-w.ensures.value c.if-year-lt0.true, omega (arith, c.width-w.ensures.upper_bound (omega arith)))

pub returns : goal.returns
returns c =
    (plain-length c.args.year c.ranges.year c.magnitude.ensures c.width-w.ensures.value c.if-year-lt0.false, omega (arith, c.width-w.ensures.upper_bound (omega arith)))
