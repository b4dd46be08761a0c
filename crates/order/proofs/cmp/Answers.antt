use mir.Syntax.{w64}
use mir.ValLaws.{to_z-of_z}
use mathlib.Core.Path.{ap, ◌∙◌}
use Rattle.std.specs.Prelude.{Some}
use Rattle.order.proofs.Numbers.{signed-order}
use Rattle.order.proofs.cmp.Goals as goal

pub returns : goal.returns
returns c =
    ap Some (rw (to_z-of_z w64 c.args.a c.ranges.a, to_z-of_z w64 c.args.b c.ranges.b) at c.cmp.ensures) ∙ signed-order c.args.a c.args.b
