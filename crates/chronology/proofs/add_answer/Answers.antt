use borrow.Author.Tests.{not-true, not-false}
use native.Mathlib.Omega.{arith}
use mathlib.Core.Path.{sym, ◌∙◌}
use Rattle.chronology.proofs.Answers.{sound-room, sound-few, has-it, has-not, add-bad, add-period, add_twice, add-full, add_done}
use borrow.Author.Rules.{rules}
use Rattle.chronology.proofs.add_answer.Goals as goal

pub returns-then-not-sound : goal.returns-then-not-sound
returns-then-not-sound c =
    c.refused.ensures ∙ add-bad _ c.args.period c.args.id (sym c.sound.ensures ∙ c.if-not-sound.true)

pub returns-then-not-good_period : goal.returns-then-not-good_period
returns-then-not-good_period c =
    c.refused-then-not-good_period.ensures ∙ add-period _ c.args.period c.args.id (sym c.sound.ensures ∙ c.if-not-sound.false) (sym c.good_period.ensures ∙ c.if-not-good_period.true)

pub find-requires : goal.find-requires
find-requires c =
    (omega arith, sound-few _ (sym c.sound.ensures ∙ c.if-not-sound.false), c.requires.of_ids)

pub returns-then-find-count : goal.returns-then-find-count
returns-then-find-count c =
    c.refused-then-find-count.ensures ∙ add_twice _ c.args.period c.args.id (sym c.sound.ensures ∙ c.if-not-sound.false) (sym c.good_period.ensures ∙ c.if-not-good_period.false)
    (has-it _ c.args.id c.find.result (sound-room _ c.requires (sym c.sound.ensures ∙ c.if-not-sound.false)) c.find.ensures.0 c.if-find-count.true)

pub returns-then-count-eq-ENTRIES : goal.returns-then-count-eq-ENTRIES
returns-then-count-eq-ENTRIES c =
    c.refused-then-count-eq-ENTRIES.ensures ∙ add-full _ c.args.period c.args.id (sym c.sound.ensures ∙ c.if-not-sound.false) (sym c.good_period.ensures ∙ c.if-not-good_period.false)
    (has-not _ c.args.id c.find.result (sound-room _ c.requires (sym c.sound.ensures ∙ c.if-not-sound.false)) c.find.ensures.0 c.if-find-count.false) c.if-count-eq-ENTRIES.true

pub overflow_add-result : goal.overflow_add-result
overflow_add-result c =
    omega (arith, sound-few _ (sym c.sound.ensures ∙ c.if-not-sound.false))

pub returns : goal.returns
returns c =
    add_done _ c.args.period c.args.id (sym c.sound.ensures ∙ c.if-not-sound.false) (sym c.good_period.ensures ∙ c.if-not-good_period.false)
    (has-not _ c.args.id c.find.result (sound-room _ c.requires (sym c.sound.ensures ∙ c.if-not-sound.false)) c.find.ensures.0 c.if-find-count.false) c.if-count-eq-ENTRIES.false
