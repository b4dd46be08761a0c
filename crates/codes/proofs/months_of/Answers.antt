use borrow.Author.Tests.{lt-ltb, le-ltb, eq-eqb, ne_eqb}
use Rattle.codes.specs.Ported.{months_of}
use Rattle.chars.specs.Pick.{pick}
use borrow.Author.Rules.{rules}
use Rattle.codes.proofs.months_of.Goals as goal

pub returns-then-y-ge10000 : goal.returns-then-y-ge10000
unfolding months_of pick
returns-then-y-ge10000 c =
    simp (← c.is_unknown.ensures, c.if-is_unknown.true, ← c.year-y.ensures, le-ltb _ _ c.if-y-ge10000.true, c.no_words.ensures)

pub returns-then-s-eq45 : goal.returns-then-s-eq45
unfolding months_of pick
returns-then-s-eq45 c =
    simp (← c.is_unknown.ensures, c.if-is_unknown.true, ← c.year-y.ensures, lt-ltb _ _ c.if-y-ge10000.false, eq-eqb _ _ c.if-s-eq45.true, c.with_month.ensures, c.with_month-then-s-eq45.ensures, c.between_words.ensures)

pub returns-then-is_unknown : goal.returns-then-is_unknown
unfolding months_of pick
returns-then-is_unknown c =
    simp (← c.is_unknown.ensures, c.if-is_unknown.true, ← c.year-y.ensures, lt-ltb _ _ c.if-y-ge10000.false, ne_eqb _ _ c.if-s-eq45.false, c.no_words-then-is_unknown.ensures)

pub returns : goal.returns
unfolding months_of pick
returns c =
    simp (← c.is_unknown.ensures, c.if-is_unknown.false, c.no_words-2.ensures)
