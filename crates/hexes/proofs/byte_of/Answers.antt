use Prim.Native.Nat.{◌+◌, ◌*◌}
use native.Mathlib.Omega.{arith}
use Rattle.hexes.proofs.Laws.{each-digit}
use borrow.Author.Rules.{rules}
use Rattle.hexes.proofs.byte_of.Goals as goal

pub digit-requires : goal.digit-requires
digit-requires c =
    each-digit c.args.line.now (2 * c.args.i) c.requires.0 (omega arith)

pub overflow_mul-result : goal.overflow_mul-result
overflow_mul-result c = omega (arith, c.digit.ensures.1)

pub digit-requires-2 : goal.digit-requires-2
digit-requires-2 c =
    each-digit c.args.line.now (2 * c.args.i + 1) c.requires.0 (omega arith)

pub overflow_add-result : goal.overflow_add-result
overflow_add-result c = omega (arith, c.digit.ensures.1, c.digit-2.ensures.1)

pub returns : goal.returns
returns c = rw (c.digit.ensures.0, c.digit-2.ensures.0)
