use Rattle.chars.specs.Pick.{pick}
use Rattle.codes.specs.Unpacked.{time_in}
use borrow.Author.Tests.{eq-eqb, ne_eqb}
use borrow.Author.Rules.{rules}
use Rattle.codes.proofs.time_back.Goals as goal

pub returns-then-t-eq0 : goal.returns-then-t-eq0
unfolding time_in pick
returns-then-t-eq0 c = simp (eq-eqb _ _ c.if-t-eq0.true)

pub returns : goal.returns
unfolding time_in pick
returns c =
    simp (ne_eqb _ _ c.if-t-eq0.false, ← c.low_byte.ensures, ← c.low_byte-2.ensures, ← c.low_byte-3.ensures, ← c.offset_of-offset.ensures, ← c.low_byte-4.ensures, ← c.low_byte-5.ensures, ← c.low_byte-6.ensures)
