use mathlib.Core.Path.{sym}
use borrow.Author.Rules.{rules}
use Rattle.numbers.proofs.trim_quick.Goals as goal

pub returns-then-is_pair : goal.returns-then-is_pair
returns-then-is_pair c = sym (c.is_pair.ensures c.if-is_pair.true)
