use borrow.Author.Tests.{not-true, not-false}
use native.Mathlib.Omega.{arith}
use mathlib.Core.Path.{sym, ◌∙◌}
use Rattle.chronology.proofs.Answers.{sound-few, list-bad, list-narrow, list_done}
use borrow.Author.Rules.{rules}
use Rattle.chronology.proofs.list_answer.Goals as goal

pub returns-then-not-sound : goal.returns-then-not-sound
returns-then-not-sound c =
    c.refused.ensures ∙ list-bad _ c.args.room (sym c.sound.ensures ∙ c.if-not-sound.true)

pub overflow_mul-count : goal.overflow_mul-count
overflow_mul-count c =
    omega (arith, sound-few _ (sym c.sound.ensures ∙ c.if-not-sound.false))

pub returns-then-count-room : goal.returns-then-count-room
returns-then-count-room c =
    list_done _ c.args.room (sym c.sound.ensures ∙ c.if-not-sound.false) c.if-count-room.true

pub returns : goal.returns
returns c =
    c.refused-2.ensures ∙ list-narrow _ c.args.room (sym c.sound.ensures ∙ c.if-not-sound.false) c.if-count-room.false
