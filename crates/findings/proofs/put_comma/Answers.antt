use Rattle.findings.proofs.Runs.{nothing, ran-as}
use Rattle.chars.specs.Pick.{pick}
use Rattle.findings.proofs.put_comma.Goals as goal

pub returns-then-first : goal.returns-then-first
unfolding pick
returns-then-first c =
    ran-as (nothing c.args.out.now c.args.at) (simp c.if-first.true)

pub returns : goal.returns
unfolding pick
returns c =
    ran-as c.put_piece.ensures (simp c.if-first.false)
