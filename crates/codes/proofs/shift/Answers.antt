use Rattle.codes.specs.Points.{is_shift}
use borrow.Author.Tests.{lt-ltb, le-ltb, eq-eqb, ne_eqb}
use borrow.Author.Rules.{rules}
use Rattle.codes.proofs.shift.Goals as goal

pub returns-then-h-ge24 : goal.returns-then-h-ge24
unfolding is_shift
returns-then-h-ge24 c =
    simp (← c.two-h.ensures.0, ← c.two-m.ensures.0, le-ltb _ _ c.if-h-ge24.true)

pub returns-then-s-ne58 : goal.returns-then-s-ne58
unfolding is_shift
returns-then-s-ne58 c =
    simp (← c.two-h.ensures.0, ← c.two-m.ensures.0, lt-ltb _ _ c.if-h-ge24.false, ne_eqb _ _ c.if-s-ne58.true)

pub returns-then-m-ge60 : goal.returns-then-m-ge60
unfolding is_shift
returns-then-m-ge60 c =
    simp (← c.two-h.ensures.0, ← c.two-m.ensures.0, lt-ltb _ _ c.if-h-ge24.false, eq-eqb _ _ c.if-s-ne58.false, le-ltb _ _ c.if-m-ge60.true)

pub returns : goal.returns
unfolding is_shift
returns c =
    simp (← c.two-h.ensures.0, ← c.two-m.ensures.0, lt-ltb _ _ c.if-h-ge24.false, eq-eqb _ _ c.if-s-ne58.false, lt-ltb _ _ c.if-m-ge60.false, ← c.four_bytes.ensures.0)
