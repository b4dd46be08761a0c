use Rattle.chunks.specs.Latin.{is_lead}
use mathlib.Core.Path.{refl}
use Rattle.chunks.proofs.is_lead.Goals as goal

pub returns : goal.returns
unfolding is_lead
returns c = refl
