use mathlib.Core.Path.{ap}
use Rattle.std.specs.Prelude.{Err}
use Rattle.puts.specs.Answers.{decided}
use Rattle.refusals.specs.Refusal.{nowhere}
use Rattle.chars.specs.Pick.{pick}
use borrow.Author.Rules.{rules}
use Rattle.answers.proofs.no_room.Goals as goal

pub returns : goal.returns
unfolding decided pick
returns c = ap Err c.nowhere.ensures
