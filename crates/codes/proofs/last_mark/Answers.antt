use Rattle.datefield.specs.Text.{last_byte, is_uncertain, is_approximate}
use mathlib.Core.Path.{refl}
use Rattle.datefield.proofs.Finding.{last_none}
use borrow.Author.Rules.{rules}
use Rattle.codes.proofs.last_mark.Goals as goal

pub returns-then-n-eq0 : goal.returns-then-n-eq0
unfolding is_uncertain is_approximate
returns-then-n-eq0 c = rw (← last_none c.args.s.now c.if-n-eq0.true) refl

pub returns : goal.returns
unfolding last_byte
returns c = c.mark.ensures
