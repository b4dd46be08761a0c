use native.Mathlib.Omega.{arith}
use Prim.Native.Nat.{◌+◌}
use Rattle.chars.specs.Pick.{pick}
use Rattle.findings.specs.Words.{capped}
use borrow.Author.Tests.{le-leb, lt-leb}
use Rattle.sheets.proofs.plus.Goals as goal

pub returns-then-n-a : goal.returns-then-n-a
unfolding capped pick
returns-then-n-a c = let a = c.args in rw (le-leb (a.a + a.n) 4294967295 (omega arith))

pub returns : goal.returns
unfolding capped pick
returns c = let a = c.args in rw (lt-leb (a.a + a.n) 4294967295 (omega arith))
