use Prim.Native.Nat.{◌+◌, ◌/◌, ◌%◌}
use Rattle.codes.proofs.Writing.{stored-two, two_digits}
use Rattle.puts.proofs.Puts.{as-text}
use native.Mathlib.Omega.{arith}
use lib.ListN.{length-set}
use borrow.Author.Rules.{rules}
use Rattle.codes.proofs.put_two.Goals as goal

pub bounds-out-at-2 : goal.bounds-out-at-2
bounds-out-at-2 c = simp length-set (omega arith)

pub returns : goal.returns
returns c = as-text (two_digits c.args.n c.requires.0) (stored-two (48 + c.args.n / 10) (48 + c.args.n % 10) c.args.out.now c.args.at)
