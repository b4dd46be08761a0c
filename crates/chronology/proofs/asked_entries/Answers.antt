use borrow.Author.Tests.{not-true, not-false}
use mathlib.Core.Path.{sym, ◌∙◌}
use Rattle.chronology.proofs.Answers.{sound-few}
use Rattle.chronology.proofs.Asked.{reply-bad, reply-period, reply-walked}
use borrow.Author.Rules.{rules}
use Rattle.chronology.proofs.asked_entries.Goals as goal

pub returns-then-not-sound : goal.returns-then-not-sound
returns-then-not-sound c =
    c.untold.ensures ∙ reply-bad _ c.args.period (sym c.sound.ensures ∙ c.if-not-sound.true)

pub returns-then-not-good_period : goal.returns-then-not-good_period
returns-then-not-good_period c =
    c.untold-then-not-good_period.ensures ∙ reply-period _ c.args.period (sym c.sound.ensures ∙ c.if-not-sound.false) (sym c.good_period.ensures ∙ c.if-not-good_period.true)

pub walk-requires : goal.walk-requires
walk-requires c =
    (sound-few _ (sym c.sound.ensures ∙ c.if-not-sound.false), c.requires)

pub returns : goal.returns
returns c =
    c.walk.ensures ∙ reply-walked _ c.args.period c.requires (sym c.sound.ensures ∙ c.if-not-sound.false) (sym c.good_period.ensures ∙ c.if-not-good_period.false)
