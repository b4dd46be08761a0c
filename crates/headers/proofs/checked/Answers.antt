use Rattle.headers.specs.Columns.{checked}
use native.Mathlib.Omega.{arith}
use borrow.Author.Rules.{rules}
use Rattle.headers.proofs.checked.Goals as goal

pub returns : goal.returns
unfolding checked
returns c =
    (simp (← c.one.ensures.0, ← c.one-2.ensures.0, ← c.one-3.ensures.0, ← c.one-4.ensures.0, ← c.six_columns.ensures.0), omega arith)
