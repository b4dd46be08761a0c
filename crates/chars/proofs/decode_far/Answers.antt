use native.Mathlib.Omega.{arith}
use Rattle.chars.proofs.Laws.{inside_is, past_end}
use mathlib.Core.Path.{sym}
use borrow.Author.Rules.{rules}
use Rattle.chars.proofs.decode_far.Goals as goal

pub returns-then-at-s : goal.returns-then-at-s
returns-then-at-s c =
    let a = c.args in
    simp (inside_is a.s.now a.at c.if-at-s.true, ← c.byte_at.ensures, ← c.byte_at-then-at-s.ensures, ← c.byte_at-then-at-s-2.ensures, ← c.decode.ensures)

pub returns-else-at-s : goal.returns-else-at-s
returns-else-at-s c = sym (past_end _ _ c.if-at-s.false)
