use Rattle.findings.proofs.Runs.{both, ran-as}
use mathlib.Core.Path.{◌∙◌}
use Rattle.findings.specs.Lines.{six_text}
use Rattle.findings.proofs.put_six_text.Goals as goal

pub shape_of-out : goal.shape_of-out
shape_of-out c =
    c.put_named.ensures.kept ∙ c.put_named-j.ensures.kept ∙ c.put_named-i.ensures.kept ∙ c.put_named-h.ensures.kept ∙ c.put_named-g.ensures.kept ∙ c.put_named-f.ensures.kept

pub returns : goal.returns
unfolding six_text
returns c =
    ran-as (both c.put_named-f.ensures (both c.put_named-g.ensures (both c.put_named-h.ensures (both c.put_named-i.ensures (both c.put_named-j.ensures c.put_named.ensures))))) (simp (← c.still_first-a.ensures, ← c.still_first-b.ensures, ← c.still_first-c.ensures, ← c.still_first-d.ensures, ← c.still_first-e.ensures))
