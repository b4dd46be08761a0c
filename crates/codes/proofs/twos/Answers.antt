use native.Mathlib.Omega.{arith}
use mir.Syntax.{w32}
use mir.ValLaws.{to_z-of_z}
use Rattle.dates.proofs.Signs.{fits-abs, not_negative, minus-read, wide_fits, minus-fits}
use Rattle.codes.proofs.Signs.{below, above}
use Rattle.codes.proofs.twos.Goals as goal

pub overflow_cast-y : goal.overflow_cast-y
overflow_cast-y c =
    wide_fits c.args.year c.ranges.year

pub overflow_sub-result : goal.overflow_sub-result
overflow_sub-result c =
    minus-fits c.args.year c.ranges.year c.if-year-lt0.true

pub overflow_cast-result : goal.overflow_cast-result
overflow_cast-result c =
    rw (minus-read c.args.year c.ranges.year c.if-year-lt0.true) (tt, fits-abs c.args.year c.ranges.year)

pub overflow_sub-result-then-year-lt0 : goal.overflow_sub-result-then-year-lt0
overflow_sub-result-then-year-lt0 c =
    let b = below c.args.year (rw (to_z-of_z w32 c.args.year c.ranges.year) at c.if-year-lt0.true) in
    rw (minus-read c.args.year c.ranges.year c.if-year-lt0.true) (omega (arith, b.0))

pub overflow_sub-result-then-year-lt0-2 : goal.overflow_sub-result-then-year-lt0-2
overflow_sub-result-then-year-lt0-2 c =
    rw (minus-read c.args.year c.ranges.year c.if-year-lt0.true) (let f = (fits-abs c.args.year c.ranges.year).fits in omega arith)

pub returns-then-year-lt0 : goal.returns-then-year-lt0
returns-then-year-lt0 c =
    let b = below c.args.year (rw (to_z-of_z w32 c.args.year c.ranges.year) at c.if-year-lt0.true) in
    rw (minus-read c.args.year c.ranges.year c.if-year-lt0.true) b.1

pub overflow_cast-result-2 : goal.overflow_cast-result-2
overflow_cast-result-2 c =
    not_negative c.args.year c.ranges.year c.if-year-lt0.false

pub returns : goal.returns
returns c =
    rw (to_z-of_z w32 c.args.year c.ranges.year) (above c.args.year (rw (to_z-of_z w32 c.args.year c.ranges.year) at c.if-year-lt0.false))
