use Rattle.chars.specs.Pick.{pick}
use Rattle.fields.specs.Day.{day_in_month_field, day_from, day_at, day_behind}
use borrow.Author.Tests.{eq-eqb, ne_eqb}
use borrow.Author.Rules.{rules}
use Rattle.fields.proofs.day_in_month_field.Goals as goal

pub returns-then-pos-day_start : goal.returns-then-pos-day_start
unfolding day_in_month_field day_from day_at day_behind pick
returns-then-pos-day_start c =
    simp (← c.eat_while-pos.ensures, ← c.eat_while-day_start.ensures, ← c.eat_while-next.ensures, ← c.from-digits.ensures, eq-eqb _ _ c.if-digits-eq0.true, eq-eqb _ _ c.if-pos-day_start.true)

pub returns-then-digits-eq0 : goal.returns-then-digits-eq0
unfolding day_in_month_field day_from day_at day_behind pick
returns-then-digits-eq0 c =
    simp (← c.eat_while-pos.ensures, ← c.eat_while-day_start.ensures, ← c.eat_while-next.ensures, ← c.from-digits.ensures, eq-eqb _ _ c.if-digits-eq0.true, ne_eqb _ _ c.if-pos-day_start.false, ← c.refuse_text.ensures)

pub returns : goal.returns
unfolding day_in_month_field day_from day_at day_behind pick
returns c =
    simp (← c.eat_while-pos.ensures, ← c.eat_while-day_start.ensures, ← c.eat_while-next.ensures, ← c.from-digits.ensures, ne_eqb _ _ c.if-digits-eq0.false, ← c.day_digits.ensures)
