use mathlib.Core.Path.{◌∙◌}
use borrow.Author.Rules.{rules}
use Rattle.scanner.proofs.eat_while.Goals as goal

pub returns : goal.returns
returns c = c.eat_each.ensures ∙ c.eat_bytes-i.ensures _ c.quick_bytes-q.ensures
