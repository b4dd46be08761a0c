use Rattle.findings.specs.Escapes.{escaped}
use Rattle.findings.proofs.Runs.{nothing, both, ran-as}
use Rattle.findings.proofs.Texts.{next-shown}
use Rattle.findings.proofs.put_escaped.Goals as goal

pub loop-b-init : goal.loop-b-init
unfolding escaped
loop-b-init c = nothing c.args.out.now c.args.at

pub loop-b-preserved : goal.loop-b-preserved
loop-b-preserved c = ran-as (both c.loop-b.invariant c.put_shown-k.ensures) (next-shown c.args.t.now c.loop-b.b-index c.loop-b-test.true)
