use Rattle.chronology.specs.Calls.{refused}
use Rattle.std.specs.Prelude.{Err}
use mathlib.Core.Path.{ap}
use borrow.Author.Rules.{rules}
use Rattle.chronology.proofs.refused.Goals as goal

pub returns : goal.returns
unfolding refused
returns c = ap Err c.nowhere.ensures
