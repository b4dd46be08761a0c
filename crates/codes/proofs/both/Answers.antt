use mathlib.Core.Path.{refl}
use borrow.Author.Rules.{rules}
use Rattle.codes.proofs.both.Goals as goal

pub returns-then-a-eq-NOTHING : goal.returns-then-a-eq-NOTHING
returns-then-a-eq-NOTHING c = record { value = λ _. c.no_words.ensures; value_2 = λ _. c.no_words.ensures; value_3 = λ n _. absurd (n c.if-a-eq-NOTHING.true) }

pub returns-then-b-eq-NOTHING : goal.returns-then-b-eq-NOTHING
returns-then-b-eq-NOTHING c = record { value = λ _. c.no_words-then-b-eq-NOTHING.ensures; value_2 = λ _. c.no_words-then-b-eq-NOTHING.ensures; value_3 = λ _ n. absurd (n c.if-b-eq-NOTHING.true) }

pub returns : goal.returns
returns c = record { value = λ e. absurd (c.if-a-eq-NOTHING.false e); value_2 = λ e. absurd (c.if-b-eq-NOTHING.false e); value_3 = λ _ _. refl }
