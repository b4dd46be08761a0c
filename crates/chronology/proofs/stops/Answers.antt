use borrow.Author.Rules.{rules}
use Rattle.chronology.proofs.Signs.{stop-touch, stop-after}
use Rattle.chronology.proofs.stops.Goals as goal

pub returns-then-touches : goal.returns-then-touches
returns-then-touches c =
    stop-touch c.args.period c.args.e c.touches.ensures c.if-touches.true

pub returns-else-touches : goal.returns-else-touches
returns-else-touches c =
    stop-after c.args.period c.args.e (record { sfits = c.struct_told-1.given.1.0.1 })
    (record { sfits = c.struct_told-else-touches-1.given.0.1 }) c.touches.ensures c.if-touches.false
