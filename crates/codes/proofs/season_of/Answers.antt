use Rattle.chars.specs.Pick.{pick}
use Rattle.codes.specs.Unpacked.{season_of}
use borrow.Author.Tests.{eq-eqb, ne_eqb}
use Rattle.codes.proofs.season_of.Goals as goal

pub returns-then-n-eq0 : goal.returns-then-n-eq0
unfolding season_of pick
returns-then-n-eq0 c = simp (eq-eqb _ _ c.if-n-eq0.true)

pub returns-then-n-eq21 : goal.returns-then-n-eq21
unfolding season_of pick
returns-then-n-eq21 c =
    simp (ne_eqb _ _ c.if-n-eq0.false, eq-eqb _ _ c.if-n-eq21.true)

pub returns-then-n-eq22 : goal.returns-then-n-eq22
unfolding season_of pick
returns-then-n-eq22 c =
    simp (ne_eqb _ _ c.if-n-eq0.false, ne_eqb _ _ c.if-n-eq21.false, eq-eqb _ _ c.if-n-eq22.true)

pub returns-then-n-eq23 : goal.returns-then-n-eq23
unfolding season_of pick
returns-then-n-eq23 c =
    simp (ne_eqb _ _ c.if-n-eq0.false, ne_eqb _ _ c.if-n-eq21.false, ne_eqb _ _ c.if-n-eq22.false, eq-eqb _ _ c.if-n-eq23.true)

pub returns : goal.returns
unfolding season_of pick
returns c =
    simp (ne_eqb _ _ c.if-n-eq0.false, ne_eqb _ _ c.if-n-eq21.false, ne_eqb _ _ c.if-n-eq22.false, ne_eqb _ _ c.if-n-eq23.false)
