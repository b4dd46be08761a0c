use Rattle.findings.proofs.Bounds.{unread-most}
use mathlib.Core.Path.{sym, ◌∙◌}
use Rattle.sheets.proofs.Stepping.{start-begins, start-ends, start-waits, stepped-none, stepped-over, stepped-wait}
use Rattle.headers.proofs.Moves.{header-advances}
use native.Mathlib.Omega.{arith}
use Rattle.sheets.proofs.start_step.Goals as goal

pub behind-requires : goal.behind-requires
behind-requires c = (header-advances _ _ (sym c.read_header.ensures ∙ c.in-With.is)).1

pub returns-in-Wait : goal.returns-in-Wait
returns-in-Wait c = start-waits c.args.last c.args.block.now c.args.st (sym c.read_header.ensures ∙ c.in-Wait.is) stepped-wait

pub shape_of-out : goal.shape_of-out
shape_of-out c = c.put_unread.ensures.same

pub returns-in-Without : goal.returns-in-Without
returns-in-Without c = start-ends c.args.last c.args.block.now c.args.st (sym c.read_header.ensures ∙ c.in-Without.is) (stepped-over c.put_unread.ensures (unread-most _) (omega arith) (omega arith))

pub returns-in-With : goal.returns-in-With
returns-in-With c = start-begins c.args.last c.args.block.now c.args.st (sym c.read_header.ensures ∙ c.in-With.is) (stepped-none _ _ c.behind.ensures)
