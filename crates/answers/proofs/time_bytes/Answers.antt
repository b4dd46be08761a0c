use Rattle.answers.proofs.Digits.{no_time, some-time}
use borrow.Author.Rules.{rules}
use Rattle.answers.proofs.time_bytes.Goals as goal

-- src/lib.rt:103:1
pub returns-in-None : goal.returns-in-None
returns-in-None c = no_time c.in-None.is

-- src/lib.rt:103:1
pub returns-in-Some : goal.returns-in-Some
returns-in-Some c = some-time c.in-Some.is c.offset_bytes-o.ensures
