use Rattle.chars.specs.Pick.{pick}
use Rattle.headers.specs.Columns.{one}
use native.Mathlib.Omega.{arith}
use borrow.Author.Tests.{lt-ltb, le-ltb}
use Rattle.headers.proofs.one.Goals as goal

pub returns-then-column-lt256 : goal.returns-then-column-lt256
unfolding one pick
returns-then-column-lt256 c = (simp (lt-ltb _ _ c.if-column-lt256.true), omega arith)

pub returns : goal.returns
unfolding one pick
returns c = (simp (le-ltb _ _ c.if-column-lt256.false), omega arith)
