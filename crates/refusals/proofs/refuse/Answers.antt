use Rattle.chars.specs.Pick.{pick}
use Rattle.refusals.specs.Refusal.{refusal}
use borrow.Author.Rules.{rules}
use Rattle.refusals.proofs.refuse.Goals as goal

pub returns-then-has_place : goal.returns-then-has_place
unfolding refusal pick
returns-then-has_place c =
    simp (← c.has_place.ensures, c.if-has_place.true)

pub returns : goal.returns
unfolding refusal pick
returns c =
    simp (← c.has_place.ensures, c.if-has_place.false)
