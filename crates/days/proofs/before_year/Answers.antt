use mathlib.Core.Path.{sym}
use native.Mathlib.Omega.{arith}
use Rattle.days.proofs.Years.{from_is, from-most}
use Rattle.days.proofs.before_year.Goals as goal

pub returns : goal.returns
returns c = (sym (from_is c.args.year), omega (arith, from_is c.args.year, from-most c.args.year))
