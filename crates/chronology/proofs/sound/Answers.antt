use mathlib.Core.Path.{◌∙◌}
use native.Mathlib.Omega.{arith}
use Rattle.chronology.proofs.Answers.{sound-above, sound-kept}
use Rattle.chronology.proofs.sound.Goals as goal

pub well_kept-requires : goal.well_kept-requires
well_kept-requires c =
    (omega arith, c.requires)

pub returns-then-count-le-ENTRIES : goal.returns-then-count-le-ENTRIES
returns-then-count-le-ENTRIES c =
    c.well_kept.ensures ∙ sound-kept _ (omega (arith, c.if-count-le-ENTRIES.true))

pub returns : goal.returns
returns c = sound-above _ (omega (arith, c.if-count-le-ENTRIES.false))
