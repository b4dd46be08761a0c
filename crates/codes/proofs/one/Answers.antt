use mathlib.Core.Path.{refl}
use borrow.Author.Rules.{rules}
use Rattle.codes.proofs.one.Goals as goal

pub returns-then-w-eq-NOTHING : goal.returns-then-w-eq-NOTHING
returns-then-w-eq-NOTHING c = record { value = λ _. c.no_words.ensures; value_2 = λ n. absurd (n c.if-w-eq-NOTHING.true) }

pub returns : goal.returns
returns c = record { value = λ e. absurd (c.if-w-eq-NOTHING.false e); value_2 = λ _. refl }
