use Rattle.findings.proofs.Runs.{ran-as}
use Rattle.findings.specs.Escapes.{shown_byte}
use Rattle.chars.specs.Pick.{pick}
use Rattle.findings.proofs.put_shown.Goals as goal

pub returns-then-is_hidden : goal.returns-then-is_hidden
unfolding shown_byte pick
returns-then-is_hidden c =
    ran-as c.put_piece.ensures (simp (← c.is_hidden.ensures, c.if-is_hidden.true, ← c.high-high.ensures, ← c.low-low.ensures))

pub returns-then-is_marked : goal.returns-then-is_marked
unfolding shown_byte pick
returns-then-is_marked c =
    ran-as c.put_piece-then-is_marked.ensures (simp (← c.is_hidden.ensures, c.if-is_hidden.false, ← c.is_marked.ensures, c.if-is_marked.true))

pub returns : goal.returns
unfolding shown_byte pick
returns c =
    ran-as c.put_piece-2.ensures (simp (← c.is_hidden.ensures, c.if-is_hidden.false, ← c.is_marked.ensures, c.if-is_marked.false))
