use borrow.Author.Tests.{le-leb, lt-leb}
use Rattle.findings.specs.Words.{capped}
use Rattle.chars.specs.Pick.{pick}
use native.Mathlib.Omega.{arith}
use Rattle.findings.proofs.capped.Goals as goal

pub returns-then-n-le4294967295 : goal.returns-then-n-le4294967295
unfolding capped pick
returns-then-n-le4294967295 c = (simp (le-leb _ _ c.if-n-le4294967295.true), omega arith)

pub returns : goal.returns
unfolding capped pick
returns c = (simp (lt-leb _ _ c.if-n-le4294967295.false), omega arith)
