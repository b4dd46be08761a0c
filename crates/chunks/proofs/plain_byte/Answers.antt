use native.Mathlib.Omega.{arith}
use Rattle.chars.specs.Pick.{pick}
use Rattle.chunks.specs.Plain.{plain_byte}
use borrow.Author.Tests.{le-leb, lt-leb}
use Rattle.chunks.proofs.plain_byte.Goals as goal

pub returns-then-b-le122 : goal.returns-then-b-le122
unfolding plain_byte pick
returns-then-b-le122 c =
    simp (c.if-upper.true, le-leb _ _ c.if-b-ge97.true, le-leb _ _ c.if-b-le122.true)

pub returns-else-b-le122 : goal.returns-else-b-le122
unfolding plain_byte pick
returns-else-b-le122 c =
    simp (c.if-upper.true, le-leb _ _ c.if-b-ge97.true, lt-leb _ _ c.if-b-le122.false)

pub returns-else-b-ge97 : goal.returns-else-b-ge97
unfolding plain_byte pick
returns-else-b-ge97 c =
    simp (c.if-upper.true, lt-leb _ _ c.if-b-ge97.false)

pub returns-else-upper : goal.returns-else-upper
unfolding plain_byte pick
returns-else-upper c = simp c.if-upper.false
