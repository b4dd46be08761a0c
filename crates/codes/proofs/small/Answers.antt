use borrow.Author.Tests.{eq-eqb, ne_eqb}
use Rattle.codes.specs.Parts.{small_of}
use Rattle.chars.specs.Pick.{pick}
use mathlib.Core.Path.{◌∙◌}
use lib.ListN.{get_or}
use Rattle.codes.proofs.Numbers.{digit-alone}
use borrow.Author.Rules.{rules}
use Rattle.codes.proofs.small.Goals as goal

pub returns-then-n-eq2 : goal.returns-then-n-eq2
unfolding small_of pick
returns-then-n-eq2 c =
    simp (eq-eqb _ _ c.if-n-eq2.true, ← c.two.ensures.0)

pub returns-then-n-eq1 : goal.returns-then-n-eq1
unfolding small_of pick
returns-then-n-eq1 c =
    rw (ne_eqb _ 2 c.if-n-eq2.false, eq-eqb _ 1 c.if-n-eq1.true) (c.two-then-n-eq1.ensures.0 ∙ digit-alone (get_or c.args.s.now 0 0))

pub returns : goal.returns
unfolding small_of pick
returns c =
    simp (ne_eqb _ _ c.if-n-eq2.false, ne_eqb _ _ c.if-n-eq1.false)
