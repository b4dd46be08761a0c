use mathlib.Core.Path.{sym, ◌∙◌}
use Rattle.chronology.proofs.Answers.{count-bad, count-done}
use borrow.Author.Rules.{rules}
use Rattle.chronology.proofs.count_answer.Goals as goal

pub returns-then-sound : goal.returns-then-sound
returns-then-sound c =
    count-done _ (sym c.sound.ensures ∙ c.if-sound.true)

pub returns : goal.returns
returns c =
    c.refused.ensures ∙ count-bad _ (sym c.sound.ensures ∙ c.if-sound.false)
