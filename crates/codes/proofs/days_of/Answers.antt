use borrow.Author.Tests.{lt-ltb, le-ltb, eq-eqb, ne_eqb}
use Rattle.codes.specs.Ported.{days_of}
use Rattle.chars.specs.Pick.{pick}
use borrow.Author.Rules.{rules}
use Rattle.codes.proofs.days_of.Goals as goal

pub returns-then-y-ge10000 : goal.returns-then-y-ge10000
unfolding days_of pick
returns-then-y-ge10000 c =
    simp (← c.year-y.ensures, ← c.part_at-m.ensures, le-ltb _ _ c.if-y-ge10000.true, c.no_words.ensures)

pub returns-then-m-ge12 : goal.returns-then-m-ge12
unfolding days_of pick
returns-then-m-ge12 c =
    simp (← c.year-y.ensures, ← c.part_at-m.ensures, lt-ltb _ _ c.if-y-ge10000.false, le-ltb _ _ c.if-m-ge12.true, c.no_words-then-m-ge12.ensures)

pub returns-then-s-eq45 : goal.returns-then-s-eq45
unfolding days_of pick
returns-then-s-eq45 c =
    simp (← c.year-y.ensures, ← c.part_at-m.ensures, lt-ltb _ _ c.if-y-ge10000.false, lt-ltb _ _ c.if-m-ge12.false, eq-eqb _ _ c.if-s-eq45.true, c.with_day.ensures, c.with_day-then-s-eq45.ensures, c.between_words.ensures)

pub returns : goal.returns
unfolding days_of pick
returns c =
    simp (← c.year-y.ensures, ← c.part_at-m.ensures, lt-ltb _ _ c.if-y-ge10000.false, lt-ltb _ _ c.if-m-ge12.false, ne_eqb _ _ c.if-s-eq45.false, c.no_words-2.ensures)
