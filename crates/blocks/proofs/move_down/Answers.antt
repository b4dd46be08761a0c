use mathlib.Core.Path.{sym, ◌∙◌}
use native.Mathlib.Omega.{arith}
use Rattle.blocks.proofs.Laws.{moved_down-is, moved_none, moved_out}
use Rattle.blocks.proofs.move_down.Goals as goal

pub returns-then-to-buf : goal.returns-then-to-buf
returns-then-to-buf c = let a = c.args in c.copy_within.ensures.after ∙ moved_down-is a.from a.to a.buf.now (omega arith) (omega arith)

pub returns-else-to-buf : goal.returns-else-to-buf
returns-else-to-buf c = let a = c.args in sym (moved_out a.from a.to a.buf.now (omega arith) (omega arith))

pub returns-else-from-to : goal.returns-else-from-to
returns-else-from-to c = let a = c.args in sym (moved_none a.from a.to a.buf.now (omega arith))
