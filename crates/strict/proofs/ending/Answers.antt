use Rattle.strict.proofs.Places.{last, more}
use lib.ListN.{drop_of_length-le}
use mathlib.Core.Path.{sym, ap, ◌∙◌}
use Rattle.strict.specs.Matcher.{ending}
use Rattle.strict.proofs.ending.Goals as goal

pub returns-then-s-at : goal.returns-then-s-at
unfolding ending
returns-then-s-at c = c.strictly.ensures ∙ ap (ending c.args.value) (sym (drop_of_length-le c.args.s.now c.if-s-at.true))

pub returns-then-s-at-eq1 : goal.returns-then-s-at-eq1
unfolding ending
returns-then-s-at-eq1 c = c.marked.ensures ∙ ap (ending c.args.value) (sym (last c.args.s.now c.args.at c.if-s-at.false c.if-s-at-eq1.true))

pub returns : goal.returns
unfolding ending
returns c = ap (ending c.args.value) (sym (more c.args.s.now c.args.at c.if-s-at.false c.if-s-at-eq1.false))
