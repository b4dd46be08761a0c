use Rattle.frames.specs.Room.{is_usual}
use borrow.Author.Tests.{le-leb, lt-leb, eq-eqb, ne_eqb}
use borrow.Author.Rules.{rules}
use Rattle.frames.proofs.is_usual.Goals as goal

pub returns-then-f-lt12 : goal.returns-then-f-lt12
unfolding is_usual
returns-then-f-lt12 c = simp (lt-leb _ _ c.if-f-lt12.true)

pub returns-then-f-ne1 : goal.returns-then-f-ne1
unfolding is_usual
returns-then-f-ne1 c =
    simp (le-leb _ _ c.if-f-lt12.false, ne_eqb _ _ c.if-f-ne1.true)

pub returns-then-f-ne0 : goal.returns-then-f-ne0
unfolding is_usual
returns-then-f-ne0 c =
    simp (le-leb _ _ c.if-f-lt12.false, eq-eqb _ _ c.if-f-ne1.false, ne_eqb _ _ c.if-f-ne0.true)

pub returns-then-byte_at-f : goal.returns-then-byte_at-f
unfolding is_usual
returns-then-byte_at-f c =
    simp (le-leb _ _ c.if-f-lt12.false, eq-eqb _ _ c.if-f-ne1.false, eq-eqb _ _ c.if-f-ne0.false, ← c.byte_at.ensures, ne_eqb _ _ c.if-byte_at-f.true)

pub returns : goal.returns
unfolding is_usual
returns c =
    simp (le-leb _ _ c.if-f-lt12.false, eq-eqb _ _ c.if-f-ne1.false, eq-eqb _ _ c.if-f-ne0.false, ← c.byte_at.ensures, eq-eqb _ _ c.if-byte_at-f.false, ← c.asked.ensures, ← c.reads_usual.ensures)
