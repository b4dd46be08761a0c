use Rattle.instants.specs.Instants.{refused_instant}
use Rattle.instants.proofs.refuse.Goals as goal

pub returns : goal.returns
unfolding refused_instant
returns c = simp (← c.nowhere.ensures)
