use Rattle.dates.proofs.Signs.{fits-abs, not_negative, minus-read, wide_fits, minus-fits}
use mathlib.Core.Path.{ap}
use lib.IntN.{nat_abs}
use borrow.Author.Rules.{rules}
use Rattle.writer.proofs.magnitude.Goals as goal

pub overflow_cast-y : goal.overflow_cast-y
overflow_cast-y c = wide_fits c.args.year c.ranges.year

pub overflow_sub-result : goal.overflow_sub-result
overflow_sub-result c = minus-fits c.args.year c.ranges.year c.if-year-lt0.true

pub overflow_cast-result : goal.overflow_cast-result
overflow_cast-result c = rw (minus-read c.args.year c.ranges.year c.if-year-lt0.true) (tt, fits-abs c.args.year c.ranges.year)

pub returns-then-year-lt0 : goal.returns-then-year-lt0
returns-then-year-lt0 c = ap nat_abs (minus-read c.args.year c.ranges.year c.if-year-lt0.true)

pub overflow_cast-result-2 : goal.overflow_cast-result-2
overflow_cast-result-2 c = not_negative c.args.year c.ranges.year c.if-year-lt0.false
