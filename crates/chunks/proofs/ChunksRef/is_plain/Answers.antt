use native.Mathlib.Omega.{arith}
use Rattle.chunks.specs.Plain.{is_plain}
use borrow.Author.Tests.{le-leb, lt-leb, eq-eqb, ne_eqb}
use borrow.Author.Rules.{rules}
use Rattle.chunks.proofs.ChunksRef.is_plain.Goals as goal

pub returns-then-self-le4096 : goal.returns-then-self-le4096
unfolding is_plain
returns-then-self-le4096 c =
    simp (eq-eqb _ _ c.if-self-eq4.true, eq-eqb _ _ c.if-self-eq0.true, eq-eqb _ _ c.if-self.true, le-leb _ _ c.if-self-le4096.true, ← c.all_ascii.ensures)

pub returns-else-self-le4096 : goal.returns-else-self-le4096
unfolding is_plain
returns-else-self-le4096 c =
    simp (eq-eqb _ _ c.if-self-eq4.true, eq-eqb _ _ c.if-self-eq0.true, eq-eqb _ _ c.if-self.true, lt-leb _ _ c.if-self-le4096.false)

pub returns-else-self : goal.returns-else-self
unfolding is_plain
returns-else-self c =
    simp (eq-eqb _ _ c.if-self-eq4.true, eq-eqb _ _ c.if-self-eq0.true, ne_eqb _ _ c.if-self.false)

pub returns-else-self-eq0 : goal.returns-else-self-eq0
unfolding is_plain
returns-else-self-eq0 c =
    simp (eq-eqb _ _ c.if-self-eq4.true, ne_eqb _ _ c.if-self-eq0.false)

pub returns-else-self-eq4 : goal.returns-else-self-eq4
unfolding is_plain
returns-else-self-eq4 c = simp (ne_eqb _ _ c.if-self-eq4.false)
