use mathlib.Core.Path.{ap}
use Rattle.std.specs.Prelude.{Err}
use Rattle.frames.proofs.Said.{carried}
use borrow.Author.Rules.{rules}
use Rattle.frames.proofs.bad_frame.Goals as goal

pub returns : goal.returns
returns c = let both = carried (ap Err c.nowhere.ensures) (c.pack.ensures.value, c.pack.ensures.typed) in record { value = both.0; typed = both.1 }
