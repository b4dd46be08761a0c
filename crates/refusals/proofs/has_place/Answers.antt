use Rattle.chars.specs.Pick.{pick}
use Rattle.refusals.proofs.Numbers.{by_number}
use borrow.Author.Rules.{rules}
use borrow.Author.Tests.{eq-eqb, ne_eqb}
use Rattle.refusals.proofs.has_place.Goals as goal

pub returns-then-n-eq9 : goal.returns-then-n-eq9
unfolding pick
returns-then-n-eq9 c =
    simp (by_number c.args.kind, ← c.number-n.ensures, eq-eqb _ _ c.if-n-eq9.true)

pub returns : goal.returns
unfolding pick
returns c =
    simp (by_number c.args.kind, ← c.number-n.ensures, ne_eqb _ _ c.if-n-eq9.false)
