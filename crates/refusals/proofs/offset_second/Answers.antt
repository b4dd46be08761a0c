use Rattle.refusals.proofs.Sums.{second_fits, second-over}
use native.Mathlib.Omega.{arith}
use mathlib.Core.Path.{sym, ◌∙◌}
use borrow.Author.Rules.{rules}
use Rattle.refusals.proofs.offset_second.Goals as goal

pub returns-then-pos-start : goal.returns-then-pos-start
returns-then-pos-start c = let a = c.args in c.nowhere.ensures ∙ sym (second-over a.e a.start a.slash (omega arith))

pub returns : goal.returns
returns c = let a = c.args in c.offset.ensures ∙ sym (second_fits a.e a.start a.slash (omega arith))
