-- `dates::is_leap` meets its contract: each `%` test says whether the year's magnitude is a multiple, and the cases are the rule's. Assumes nothing.
use mathlib.Core.Path.{◌≡◌, sym, ◌∙◌}
use mathlib.Core.Bool.{true, false}
use native.Mathlib.Omega.{arith}
use borrow.Author.Tests.{ne_eqb, eq-eqb}
use Rattle.dates.specs.Calendar.{leap_year, multiple}
use Rattle.dates.proofs.Signs.{quot_fits, rem-test}
use Rattle.dates.proofs.is_leap.Goals as goal

pub nonzero_rem-year : goal.nonzero_rem-year
nonzero_rem-year c = (omega arith, quot_fits c.args.year 4 c.ranges.year)

pub nonzero_rem-year-then-year-eq0 : goal.nonzero_rem-year-then-year-eq0
nonzero_rem-year-then-year-eq0 c = (omega arith, quot_fits c.args.year 100 c.ranges.year)

pub nonzero_rem-result : goal.nonzero_rem-result
nonzero_rem-result c = (omega arith, quot_fits c.args.year 400 c.ranges.year)

pub returns-then-year-ne0 : goal.returns-then-year-ne0
unfolding leap_year multiple
returns-then-year-ne0 c =
    let y = c.args.year in
    let f = c.ranges.year in
    let four : multiple 4 y ≡ true = sym (rem-test y 4 f (omega arith) (omega arith)) ∙ eq-eqb _ 0 c.if-year-eq0.true in
    let hundred : multiple 100 y ≡ false = sym (rem-test y 100 f (omega arith) (omega arith)) ∙ ne_eqb _ 0 c.if-year-ne0.true in
    simp (rem-test y 100 f (omega arith) (omega arith), four, hundred)

pub returns-else-year-ne0 : goal.returns-else-year-ne0
unfolding leap_year multiple
returns-else-year-ne0 c =
    let y = c.args.year in
    let f = c.ranges.year in
    let four : multiple 4 y ≡ true = sym (rem-test y 4 f (omega arith) (omega arith)) ∙ eq-eqb _ 0 c.if-year-eq0.true in
    let hundred : multiple 100 y ≡ true = sym (rem-test y 100 f (omega arith) (omega arith)) ∙ eq-eqb _ 0 c.if-year-ne0.false in
    simp (rem-test y 400 f (omega arith) (omega arith), four, hundred)

pub returns-else-year-eq0 : goal.returns-else-year-eq0
unfolding leap_year multiple
returns-else-year-eq0 c =
    let y = c.args.year in
    let f = c.ranges.year in
    let four : multiple 4 y ≡ false = sym (rem-test y 4 f (omega arith) (omega arith)) ∙ ne_eqb _ 0 c.if-year-eq0.false in
    simp (rem-test y 4 f (omega arith) (omega arith), four)
