use Rattle.findings.proofs.Runs.{both, ran-as}
use borrow.Author.Tests.{eq-eqb, ne_eqb}
use Rattle.findings.specs.Lines.{signing}
use Rattle.chars.specs.Pick.{pick}
use Rattle.findings.proofs.put_signing.Goals as goal

pub returns-then-n-eq0 : goal.returns-then-n-eq0
unfolding signing pick
returns-then-n-eq0 c =
    ran-as c.put_piece.ensures (simp (eq-eqb _ _ c.if-n-eq0.true))

pub returns-then-n-eq1 : goal.returns-then-n-eq1
unfolding signing pick
returns-then-n-eq1 c =
    ran-as (both c.put_counted-k.ensures c.put_piece-then-n-eq1.ensures) (simp (ne_eqb _ _ c.if-n-eq0.false, eq-eqb _ _ c.if-n-eq1.true))

pub returns : goal.returns
unfolding signing pick
returns c =
    ran-as (both c.put_counted-k.ensures c.put_piece-2.ensures) (simp (ne_eqb _ _ c.if-n-eq0.false, ne_eqb _ _ c.if-n-eq1.false))
