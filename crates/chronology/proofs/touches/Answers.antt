use Rattle.chronology.proofs.Signs.{touch-more, touch-not}
use Rattle.chronology.proofs.touches.Goals as goal

pub returns-then-e-period : goal.returns-then-e-period
returns-then-e-period c =
    touch-more c.args.period c.args.e (record { sfits = c.struct_told-2-1.given.1.0.1 })
    (record { sfits = c.struct_told-1.given.0.1 }) (record { sfits = c.struct_told-then-e-period-1.given.0.1 })
    (record { sfits = c.struct_told-then-e-period-2-1.given.1.0.1 }) c.if-e-period.true

pub returns-else-e-period : goal.returns-else-e-period
returns-else-e-period c =
    touch-not c.args.period c.args.e (record { sfits = c.struct_told-2-1.given.1.0.1 })
    (record { sfits = c.struct_told-1.given.0.1 }) c.if-e-period.false
