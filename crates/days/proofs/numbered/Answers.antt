use Rattle.days.proofs.Numbers.{taken-fits, taken}
use borrow.Author.Rules.{rules}
use Rattle.days.proofs.numbered.Goals as goal

pub overflow_sub-result : goal.overflow_sub-result
overflow_sub-result c = search (rules, taken-fits)

pub returns : goal.returns
returns c = taken c.args.n c.requires
