use mathlib.Core.Path.{refl}
use lib.ListN.{get_or-eq_default}
use Rattle.codes.specs.Texts.{is_slash}
use borrow.Author.Rules.{rules}
use Rattle.codes.proofs.slash_at.Goals as goal

pub returns-then-at-s : goal.returns-then-at-s
unfolding is_slash
returns-then-at-s c = refl

pub returns : goal.returns
unfolding is_slash
returns c = simp (get_or-eq_default c.args.s.now 0 c.if-at-s.false)
