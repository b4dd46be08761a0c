use Rattle.findings.proofs.Texts.{said, unsaid}
use Rattle.findings.proofs.Runs.{both, nothing, ran-as}
use Rattle.findings.specs.Lines.{six_line}
use Rattle.findings.proofs.put_six_line.Goals as goal

pub returns-then-is_said : goal.returns-then-is_said
unfolding six_line
returns-then-is_said c =
    ran-as (both c.put_head-i.ensures (both c.put_piece-j.ensures (both c.put_six_text-k.ensures c.put_tail.ensures))) (said _ _ _ _ _ _ c.is_said.ensures c.if-is_said.true)

pub returns : goal.returns
unfolding six_line
returns c =
    ran-as (nothing c.args.out.now 0) (unsaid _ _ _ _ _ _ c.is_said.ensures c.if-is_said.false)
