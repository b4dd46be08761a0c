use Rattle.verdicts.specs.Fields.{read_verdict}
use Rattle.verdicts.proofs.read_verdict.Goals as goal

pub returns : goal.returns
unfolding read_verdict
returns c =
    simp (← c.either_few-short.ensures, ← c.both_plain-plain.ensures, ← c.read_six.ensures, ← c.verdict_of.ensures)
