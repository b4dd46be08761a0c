use borrow.Author.Tests.{lt-ltb, le-ltb, eq-eqb, ne_eqb}
use Rattle.codes.specs.Ported.{bad_day, is_day_form}
use Rattle.chars.specs.Pick.{pick}
use borrow.Author.Rules.{rules}
use Rattle.codes.proofs.bad_day.Goals as goal

pub returns-then-y-ge10000 : goal.returns-then-y-ge10000
unfolding bad_day is_day_form pick
returns-then-y-ge10000 c =
    simp (← c.year-y.ensures, ← c.two-m.ensures.0, ← c.two-d.ensures.0, le-ltb _ _ c.if-y-ge10000.true, c.no_words.ensures)

pub returns-then-s-ne45 : goal.returns-then-s-ne45
unfolding bad_day is_day_form pick
returns-then-s-ne45 c =
    simp (← c.year-y.ensures, ← c.two-m.ensures.0, ← c.two-d.ensures.0, lt-ltb _ _ c.if-y-ge10000.false, ne_eqb _ _ c.if-s-ne45.true, c.no_words-then-s-ne45.ensures)

pub returns-then-m-ge100 : goal.returns-then-m-ge100
unfolding bad_day is_day_form pick
returns-then-m-ge100 c =
    simp (← c.year-y.ensures, ← c.two-m.ensures.0, ← c.two-d.ensures.0, lt-ltb _ _ c.if-y-ge10000.false, eq-eqb _ _ c.if-s-ne45.false, le-ltb _ _ c.if-m-ge100.true, c.no_words-then-m-ge100.ensures)

pub returns-then-s-ne45-2 : goal.returns-then-s-ne45-2
unfolding bad_day is_day_form pick
returns-then-s-ne45-2 c =
    simp (← c.year-y.ensures, ← c.two-m.ensures.0, ← c.two-d.ensures.0, lt-ltb _ _ c.if-y-ge10000.false, eq-eqb _ _ c.if-s-ne45.false, lt-ltb _ _ c.if-m-ge100.false, ne_eqb _ _ c.if-s-ne45-2.true, c.no_words-then-s-ne45-2.ensures)

pub returns-then-d-lt100 : goal.returns-then-d-lt100
unfolding bad_day is_day_form pick
returns-then-d-lt100 c =
    simp (← c.year-y.ensures, ← c.two-m.ensures.0, ← c.two-d.ensures.0, lt-ltb _ _ c.if-y-ge10000.false, eq-eqb _ _ c.if-s-ne45.false, lt-ltb _ _ c.if-m-ge100.false, eq-eqb _ _ c.if-s-ne45-2.false, lt-ltb _ _ c.if-d-lt100.true, ← c.bad_parts.ensures)

pub returns : goal.returns
unfolding bad_day is_day_form pick
returns c =
    simp (← c.year-y.ensures, ← c.two-m.ensures.0, ← c.two-d.ensures.0, lt-ltb _ _ c.if-y-ge10000.false, eq-eqb _ _ c.if-s-ne45.false, lt-ltb _ _ c.if-m-ge100.false, eq-eqb _ _ c.if-s-ne45-2.false, le-ltb _ _ c.if-d-lt100.false, c.no_words-2.ensures)
