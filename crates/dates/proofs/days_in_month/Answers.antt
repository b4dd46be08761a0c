use native.Mathlib.Omega.{arith}
use Rattle.dates.proofs.Months.{low, high, second, beyond}
use Rattle.dates.specs.Calendar.{leap_year, february}
use mathlib.Core.Bool.{true, false}
use mathlib.Core.Path.{sym, ap, ◌∙◌, ◌≡◌}
use mir.ValLaws.{to_z-of_z}
use mir.Syntax.{w32}
use borrow.Author.Rules.{rules}
use Rattle.dates.proofs.days_in_month.Goals as goal

pub returns-then-is_leap : goal.returns-then-is_leap
unfolding february
returns-then-is_leap c =
    let said : leap_year c.args.year ≡ true = sym (rw (to_z-of_z w32 c.args.year c.ranges.year) at c.is_leap.ensures) ∙ c.if-is_leap.true in
    sym (second _ _ c.if-m-eq1.true ∙ ap february said)

pub returns-else-is_leap : goal.returns-else-is_leap
unfolding february
returns-else-is_leap c =
    let said : leap_year c.args.year ≡ false = sym (rw (to_z-of_z w32 c.args.year c.ranges.year) at c.is_leap.ensures) ∙ c.if-is_leap.false in
    sym (second _ _ c.if-m-eq1.true ∙ ap february said)

pub returns-then-m-lt7 : goal.returns-then-m-lt7
returns-then-m-lt7 c = low _ _ c.if-m-eq1.false c.if-m-lt7.true

pub returns-then-m-lt12 : goal.returns-then-m-lt12
returns-then-m-lt12 c = high _ _ c.if-m-lt7.false c.if-m-lt12.true

pub returns : goal.returns
returns c = beyond _ _ c.if-m-lt12.false
