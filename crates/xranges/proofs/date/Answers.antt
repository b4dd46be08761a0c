use native.Mathlib.Omega.{arith}
use mir.Syntax.{w32}
use mir.ValLaws.{to_z_pos}
use borrow.Author.Rules.{rules}
use Rattle.xranges.proofs.date.Goals as goal

pub returns : goal.returns
returns c = rw (to_z_pos w32 c.args.year (search rules)) at c.new.ensures
