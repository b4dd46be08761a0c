use Rattle.dates.specs.Time.{offset_seconds}
use Rattle.dates.proofs.Clock.{behind-fits, ahead, behind}
use native.Mathlib.Omega.{arith}
use mathlib.Core.Path.{sym, ap}
use borrow.Author.Rules.{rules}
use Rattle.dates.proofs.TimeOffset.to_seconds.Goals as goal

pub enum_told-1 : goal.enum_told-1
enum_told-1 c = c.in-Utc.in-Utc-own.keys1

pub enum_known-self : goal.enum_known-self
enum_known-self c = c.in-Offset.in-Offset-own.keys2

pub seconds-n-requires : goal.seconds-n-requires
seconds-n-requires c = search rules

pub overflow_cast-n : goal.overflow_cast-n
overflow_cast-n c = omega arith

pub overflow_sub-result : goal.overflow_sub-result
overflow_sub-result c = behind-fits c.seconds-n.result c.seconds-n.ensures.1

pub returns-in-Utc : goal.returns-in-Utc
unfolding offset_seconds
returns-in-Utc c = (ap offset_seconds (sym c.in-Utc.is), omega arith)

pub returns-then-positive : goal.returns-then-positive
returns-then-positive c = ahead c.in-Offset.is c.seconds-n.ensures.0 c.seconds-n.ensures.1 c.if-positive.true

pub returns-else-positive : goal.returns-else-positive
returns-else-positive c = behind c.in-Offset.is c.seconds-n.ensures.0 c.seconds-n.ensures.1 c.if-positive.false
