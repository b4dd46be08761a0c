use borrow.Author.Tests.{eq-eqb, ne_eqb}
use Rattle.chars.specs.Pick.{pick}
use Rattle.codes.specs.Unpacked.{read_in}
use borrow.Author.Rules.{rules}
use Rattle.codes.proofs.unpack.Goals as goal

pub returns-then-refusal-eq0 : goal.returns-then-refusal-eq0
unfolding read_in pick
returns-then-refusal-eq0 c =
    simp (c.date_back.ensures, ← c.low_byte-refusal.ensures, eq-eqb _ _ c.if-refusal-eq0.true)

pub returns : goal.returns
unfolding read_in pick
returns c =
    simp (c.lent_span.ensures, c.kind_of.ensures, ← c.low_byte-refusal.ensures, ne_eqb _ _ c.if-refusal-eq0.false)
