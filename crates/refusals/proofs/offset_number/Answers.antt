use Rattle.refusals.proofs.Sums.{number_fits, number-end-over, number-start-over}
use native.Mathlib.Omega.{arith}
use mathlib.Core.Path.{sym, ◌∙◌}
use borrow.Author.Rules.{rules}
use Rattle.refusals.proofs.offset_number.Goals as goal

pub returns-then-start-b : goal.returns-then-start-b
returns-then-start-b c = let a = c.args in c.nowhere.ensures ∙ sym (number-end-over a.e a.start (omega arith))

pub returns-then-start-a : goal.returns-then-start-a
returns-then-start-a c = let a = c.args in c.nowhere-then-start-a.ensures ∙ sym (number-start-over a.e a.start (omega arith) (omega arith))

pub returns : goal.returns
returns c = let a = c.args in c.refuse.ensures ∙ sym (number_fits a.e a.start (omega arith) (omega arith))
