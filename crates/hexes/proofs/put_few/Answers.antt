use mathlib.Core.Path.{◌∙◌}
use native.Mathlib.Omega.{arith}
use Rattle.hexes.proofs.Laws.{last-put}
use Rattle.hexes.proofs.put_few.Goals as goal

pub returns : goal.returns
returns c = last-put c.args.line.now c.loop-i.frame c.loop-i.i (omega arith) ∙ c.loop-i.invariant
