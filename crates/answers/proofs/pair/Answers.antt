use Prim.Native.Nat.{◌+◌, ◌*◌, ◌/◌, ◌%◌}
use native.Mathlib.Omega.{arith}
use lib.Bits.{and_le_r}
use Rattle.answers.proofs.Digits.{digit_pair, first-digit, second-digit}
use borrow.Author.Rules.{rules}
use Rattle.answers.proofs.pair.Goals as goal

pub overflow_mul-result : goal.overflow_mul-result
overflow_mul-result c = omega (arith, and_le_r ((c.args.b / 16 + 256 * (c.args.b % 16) + 0x0606) / 16) 0x0101)

pub overflow_add-result-2 : goal.overflow_add-result-2
overflow_add-result-2 c = omega (arith, and_le_r ((c.args.b / 16 + 256 * (c.args.b % 16) + 0x0606) / 16) 0x0101)

pub returns : goal.returns
unfolding digit_pair
returns c = (first-digit c.args.b (omega arith), second-digit c.args.b (omega arith))
