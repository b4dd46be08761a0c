use Rattle.findings.proofs.Runs.{both, ran-as}
use Rattle.findings.specs.Words.{refusal_words}
use Rattle.findings.proofs.put_refusal.Goals as goal

pub returns : goal.returns
unfolding refusal_words
returns c =
    ran-as (both c.put_kind-k.ensures c.put_place.ensures) (simp (← c.number.ensures))
