use borrow.Author.Tests.{not-true, not-false}
use native.Mathlib.Omega.{arith}
use mathlib.Core.Path.{sym, ◌∙◌}
use Rattle.chronology.proofs.Answers.{sound-room, sound-few, has-it, has-not, remove-bad, remove-unknown, remove-done}
use borrow.Author.Rules.{rules}
use Rattle.chronology.proofs.remove_answer.Goals as goal

pub returns-then-not-sound : goal.returns-then-not-sound
returns-then-not-sound c =
    c.refused.ensures ∙ remove-bad _ c.args.id (sym c.sound.ensures ∙ c.if-not-sound.true)

pub find-requires : goal.find-requires
find-requires c =
    (omega arith, sound-few _ (sym c.sound.ensures ∙ c.if-not-sound.false), c.requires.of_ids)

pub returns-then-find-count : goal.returns-then-find-count
returns-then-find-count c =
    remove-done _ c.args.id (sym c.sound.ensures ∙ c.if-not-sound.false)
    (has-it _ c.args.id c.find.result (sound-room _ c.requires (sym c.sound.ensures ∙ c.if-not-sound.false)) c.find.ensures.0 c.if-find-count.true)

pub returns : goal.returns
returns c =
    c.refused-2.ensures ∙ remove-unknown _ c.args.id (sym c.sound.ensures ∙ c.if-not-sound.false)
    (has-not _ c.args.id c.find.result (sound-room _ c.requires (sym c.sound.ensures ∙ c.if-not-sound.false)) c.find.ensures.0 c.if-find-count.false)
