use Rattle.findings.proofs.Runs.{both, nothing, ran-as}
use borrow.Author.Tests.{eq-eqb, ne_eqb}
use Rattle.findings.specs.Lines.{named_cell}
use Rattle.chars.specs.Pick.{pick}
use Rattle.findings.proofs.put_named.Goals as goal

pub returns-then-cell-eq0 : goal.returns-then-cell-eq0
unfolding named_cell pick
returns-then-cell-eq0 c =
    ran-as (nothing c.args.out.now c.args.at) (simp (eq-eqb _ _ c.if-cell-eq0.true))

pub returns : goal.returns
unfolding named_cell pick
returns c =
    ran-as (both c.put_comma-i.ensures (both c.put_piece-j.ensures (both c.put_piece-k.ensures c.put_quoted.ensures))) (simp (ne_eqb _ _ c.if-cell-eq0.false))
