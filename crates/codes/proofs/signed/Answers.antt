use mir.ValLaws.{to_z_pos}
use mir.Syntax.{w32}
use native.Mathlib.Omega.{arith}
use borrow.Author.Rules.{rules}
use Rattle.codes.proofs.signed.Goals as goal

pub returns : goal.returns
returns c = to_z_pos w32 c.args.n (omega arith)
