use mathlib.Core.Path.{refl, sym, ◌∙◌}
use borrow.Author.Rules.{rules}
use Rattle.reader.proofs.is_whole.Goals as goal

pub returns-then-is_one_normal : goal.returns-then-is_one_normal
returns-then-is_one_normal c = rw (sym c.is_one_normal.ensures ∙ c.if-is_one_normal.true) refl

pub returns : goal.returns
returns c = rw (sym c.is_one_normal.ensures ∙ c.if-is_one_normal.false) c.is_joined.ensures
