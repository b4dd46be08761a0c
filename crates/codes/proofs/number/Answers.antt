use mathlib.Core.Path.{sym, ◌∙◌}
use Rattle.codes.proofs.Numbers.{four_are, three-are, two-are, one-is, no_number}
use borrow.Author.Rules.{rules}
use Rattle.codes.proofs.number.Goals as goal

pub returns-then-n-eq4 : goal.returns-then-n-eq4
returns-then-n-eq4 c = c.year.ensures ∙ four_are _ c.if-n-eq4.true

pub returns-then-n-eq3 : goal.returns-then-n-eq3
returns-then-n-eq3 c = c.four.ensures ∙ three-are _ c.if-n-eq3.true

pub returns-then-n-eq2 : goal.returns-then-n-eq2
returns-then-n-eq2 c = c.four-then-n-eq2.ensures ∙ two-are _ c.if-n-eq2.true

pub returns-then-n-eq1 : goal.returns-then-n-eq1
returns-then-n-eq1 c = c.four-then-n-eq1.ensures ∙ one-is _ c.if-n-eq1.true

pub returns : goal.returns
returns c = sym (no_number _ c.if-n-eq4.false c.if-n-eq3.false c.if-n-eq2.false c.if-n-eq1.false)
