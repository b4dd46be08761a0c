use Rattle.headers.specs.Header.{with_cells}
use Rattle.headers.specs.Columns.{twice}
use Rattle.chars.specs.Pick.{pick}
use borrow.Author.Tests.{eq-eqb, ne_eqb}
use borrow.Author.Rules.{rules}
use Rattle.headers.proofs.with_cells.Goals as goal

pub returns-then-twice_date : goal.returns-then-twice_date
unfolding with_cells twice pick
returns-then-twice_date c =
    simp (← c.columns_in-columns.ensures, ← c.twice_date.ensures, c.if-twice_date.true)

pub returns-then-twice_six : goal.returns-then-twice_six
unfolding with_cells twice pick
returns-then-twice_six c =
    simp (← c.columns_in-columns.ensures, ← c.twice_date.ensures, c.if-twice_date.false, ← c.twice_six.ensures, c.if-twice_six.true)

pub returns-then-checked-eq0 : goal.returns-then-checked-eq0
unfolding with_cells twice pick
returns-then-checked-eq0 c =
    simp (← c.columns_in-columns.ensures, ← c.twice_date.ensures, c.if-twice_date.false, ← c.twice_six.ensures, c.if-twice_six.false, ← c.checked.ensures.0, eq-eqb _ _ c.if-checked-eq0.true)

pub returns : goal.returns
unfolding with_cells twice pick
returns c =
    simp (← c.columns_in-columns.ensures, ← c.twice_date.ensures, c.if-twice_date.false, ← c.twice_six.ensures, c.if-twice_six.false, ← c.checked.ensures.0, ne_eqb _ _ c.if-checked-eq0.false)
