use Rattle.headers.specs.Columns.{six_columns}
use native.Mathlib.Omega.{arith}
use borrow.Author.Rules.{rules}
use Rattle.headers.proofs.six_columns.Goals as goal

pub returns : goal.returns
unfolding six_columns
returns c =
    (simp (← c.one.ensures.0, ← c.one-2.ensures.0, ← c.one-3.ensures.0, ← c.one-4.ensures.0, ← c.one-5.ensures.0, ← c.one-6.ensures.0), omega arith)
