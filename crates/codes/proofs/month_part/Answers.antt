use borrow.Author.Tests.{lt-ltb, le-ltb, ne_eqb}
use Rattle.codes.specs.Parts.{month_part}
use Rattle.chars.specs.Pick.{pick}
use borrow.Author.Rules.{rules}
use Rattle.codes.proofs.month_part.Goals as goal

pub returns-then-n-eq0 : goal.returns-then-n-eq0
unfolding month_part pick
returns-then-n-eq0 c = rw (← c.small-n.ensures, c.if-n-eq0.true)

pub returns-then-n-lt100 : goal.returns-then-n-lt100
unfolding month_part pick
returns-then-n-lt100 c =
    simp (← c.small-n.ensures, ne_eqb _ _ c.if-n-eq0.false, lt-ltb _ _ c.if-n-lt100.true, c.month_word_of.ensures)

pub returns : goal.returns
unfolding month_part pick
returns c =
    simp (← c.small-n.ensures, ne_eqb _ _ c.if-n-eq0.false, le-ltb _ _ c.if-n-lt100.false, ← c.named_month.ensures)
