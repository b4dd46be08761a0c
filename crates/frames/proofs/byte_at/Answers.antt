use mathlib.Core.Path.{refl, sym}
use lib.ListN.{get_or-eq_default}
use borrow.Author.Rules.{rules}
use Rattle.frames.proofs.byte_at.Goals as goal

pub returns-then-at-f : goal.returns-then-at-f
returns-then-at-f c = refl

pub returns : goal.returns
returns c =
    sym (get_or-eq_default c.args.f.now 0 c.if-at-f.false)
