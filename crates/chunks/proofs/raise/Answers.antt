use Rattle.chars.specs.Pick.{pick}
use Rattle.chars.proofs.Cases.{and-true}
use Rattle.chunks.specs.Latin.{raised}
use lib.Dec.{leb, eqb}
use mathlib.Core.Bool.{not, ◌&&◌}
use native.Mathlib.Omega.{arith}
use borrow.Author.Rules.{rules}
use borrow.Author.Tests.{leb-true}
use Rattle.chunks.proofs.raise.Goals as goal

pub overflow_sub-result : goal.overflow_sub-result
overflow_sub-result c =
    let a = c.args in
    let q = and-true (leb 0xA0 a.b) (not (eqb a.b 0xB7)) (and-true (eqb a.p 0xC3) (leb 0xA0 a.b && not (eqb a.b 0xB7)) c.if-lower.true).1 in
    omega (arith, leb-true 0xA0 a.b q.0)

pub returns-then-lower : goal.returns-then-lower
unfolding raised pick
returns-then-lower c = rw c.if-lower.true

pub returns : goal.returns
unfolding raised pick
returns c = rw c.if-lower.false c.plain_byte.ensures
