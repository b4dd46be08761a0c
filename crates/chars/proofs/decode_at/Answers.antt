use native.Mathlib.Omega.{arith}
use Rattle.chars.proofs.Laws.{past_end, ascii}
use mathlib.Core.Path.{sym}
use borrow.Author.Rules.{rules}
use Rattle.chars.proofs.decode_at.Goals as goal

pub returns-then-b-lt128 : goal.returns-then-b-lt128
returns-then-b-lt128 c = rw c.wide.ensures (sym (ascii _ _ c.if-at-s.true c.if-b-lt128.true))

pub returns : goal.returns
returns c = sym (past_end _ _ c.if-at-s.false)
