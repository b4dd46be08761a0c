use Rattle.verdicts.specs.Fields.{given_verdict}
use Rattle.chars.specs.Pick.{pick}
use Rattle.verdicts.proofs.given_verdict.Goals as goal

pub returns-then-is_unread : goal.returns-then-is_unread
unfolding given_verdict pick
returns-then-is_unread c =
    simp (← c.is_unread.ensures, c.if-is_unread.true)

pub returns : goal.returns
unfolding given_verdict pick
returns c =
    simp (← c.is_unread.ensures, c.if-is_unread.false, ← c.read_verdict.ensures)
