use mathlib.Core.Bool.{false≢true}
use borrow.Author.Rules.{rules}
use Rattle.reader.proofs.are_small.Goals as goal

pub returns-then-is_small_if : goal.returns-then-is_small_if
returns-then-is_small_if c =
    λ h. record {
      year = c.is_small.ensures c.if-is_small.true;
      month = c.is_small_if.ensures c.if-is_small_if.true;
      day = c.is_small_if-then-is_small_if.ensures h;
    }

pub returns-else-is_small_if : goal.returns-else-is_small_if
returns-else-is_small_if c = λ h. absurd (false≢true h)

pub returns-else-is_small : goal.returns-else-is_small
returns-else-is_small c = λ h. absurd (false≢true h)
