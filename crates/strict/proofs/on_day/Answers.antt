use mathlib.Core.Path.{ap}
use Rattle.dates.specs.declared.Datetime.{Datetime}
use Rattle.std.specs.Prelude.{Option, Some, ℕ}
use mir.Syntax.{w32}
use mir.ValLaws.{to_z-of_z}
use Rattle.strict.proofs.on_day.Goals as goal

pub returns : goal.returns
returns c =
    let z = to_z-of_z w32 c.args.year c.ranges.year in
    ap {B = Option (Datetime × ℕ)} (λ (d : Datetime). Some (d, c.args.clock.next)) (rw z at c.new.ensures)
