use Rattle.chars.specs.Pick.{pick}
use Rattle.xranges.specs.Range.{get_hyphen, hyphen_from, hyphen_run}
use borrow.Author.Tests.{eq-eqb, ne_eqb}
use borrow.Author.Rules.{rules}
use Rattle.xranges.proofs.get_hyphen.Goals as goal

pub returns-then-len-eq0 : goal.returns-then-len-eq0
unfolding get_hyphen hyphen_from hyphen_run pick
returns-then-len-eq0 c =
    simp (← c.eat_whitespace-start.ensures, ← c.eat_while-next.ensures, ← c.len.ensures, eq-eqb _ _ c.if-len-eq0.true, ← c.here.ensures)

pub returns : goal.returns
unfolding get_hyphen hyphen_from hyphen_run pick
returns c =
    simp (← c.eat_whitespace-start.ensures, ← c.eat_while-next.ensures, ← c.len.ensures, ne_eqb _ _ c.if-len-eq0.false, ← c.eat_whitespace.ensures)
