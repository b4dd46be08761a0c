use Rattle.findings.proofs.Runs.{both, ran-as}
use mathlib.Core.Path.{◌∙◌}
use Rattle.findings.specs.Lines.{summary}
use Rattle.findings.proofs.put_summary.Goals as goal

pub put_signing-requires : goal.put_signing-requires
put_signing-requires c = c.sum-findings.ensures.1

pub shape_of-out : goal.shape_of-out
shape_of-out c =
    c.put_signing.ensures.kept ∙ c.put_piece-l.ensures.kept ∙ c.put_counted-k.ensures.kept ∙ c.put_counted-j.ensures.kept ∙ c.put_counted-i.ensures.kept ∙ c.put_counted-h.ensures.kept ∙ c.put_counted-g.ensures.kept ∙ c.put_counted-f.ensures.kept

pub returns : goal.returns
unfolding summary
returns c =
    ran-as (both c.put_counted-f.ensures (both c.put_counted-g.ensures (both c.put_counted-h.ensures (both c.put_counted-i.ensures (both c.put_counted-j.ensures (both c.put_counted-k.ensures (both c.put_piece-l.ensures c.put_signing.ensures))))))) (simp (← c.sum-dates.ensures.0, ← c.sum-findings.ensures.0))
