use Prim.Native.Nat.{◌+◌}
use mathlib.Core.Path.{sym}
use native.Mathlib.Omega.{arith}
use borrow.Author.Tests.{le-leb, lt-leb}
use Rattle.puts.proofs.has_room.Goals as goal

pub returns-then-at-room : goal.returns-then-at-room
returns-then-at-room c = let a = c.args in sym (le-leb (a.at + a.n) a.room (omega arith))

pub returns-else-at-room : goal.returns-else-at-room
returns-else-at-room c = let a = c.args in sym (lt-leb (a.at + a.n) a.room (omega arith))

pub returns-else-n-room : goal.returns-else-n-room
returns-else-n-room c = let a = c.args in sym (lt-leb (a.at + a.n) a.room (omega arith))
