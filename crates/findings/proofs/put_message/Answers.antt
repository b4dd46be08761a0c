use Rattle.findings.specs.Words.{message}
use Rattle.findings.proofs.put_message.Goals as goal

pub returns-in-Unread : goal.returns-in-Unread
unfolding message
returns-in-Unread c =
    rw c.in-Unread.is c.put_piece.ensures
