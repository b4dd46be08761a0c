use Rattle.pages.proofs.Walk.{rows_four, rows-size, step_is}
use native.Mathlib.Omega.{arith}
use borrow.Author.Rules.{rules}
use Rattle.pages.proofs.step.Goals as goal

pub size-len-requires : goal.size-len-requires
size-len-requires c = let t = c.args.list.table.now in (rows_four t c.args.row c.args.n c.requires.0, omega (arith, rows-size t c.args.row c.args.n, c.requires.1))

pub overflow_add-one : goal.overflow_add-one
overflow_add-one c = omega (arith, c.size-len.ensures, rows-size c.args.list.table.now c.args.row c.args.n, c.requires.1)

pub slice_bounds-one-end : goal.slice_bounds-one-end
slice_bounds-one-end c = omega (arith, c.size-len.ensures, rows-size c.args.list.table.now c.args.row c.args.n, c.requires.1)

pub returns : goal.returns
returns c = step_is c.args.list.bytes.now c.args.list.table.now c.args.at c.args.row c.args.n c.size-len.ensures c.piece.ensures
