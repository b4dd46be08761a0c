use Rattle.chunks.specs.Chunks.{fits}
use borrow.Author.Tests.{eq-eqb, ne_eqb}
use borrow.Author.Rules.{rules}
use Rattle.chunks.proofs.ChunksRef.fits.Goals as goal

pub returns-then-self-eq0 : goal.returns-then-self-eq0
unfolding fits
returns-then-self-eq0 c =
    simp (eq-eqb _ _ c.if-self-eq0.true, ← c.lengths_fit.ensures)

pub returns : goal.returns
unfolding fits
returns c = simp (ne_eqb _ _ c.if-self-eq0.false)
