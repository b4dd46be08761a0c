use lib.Seq.{length-take-le}
use native.Mathlib.Omega.{arith}
use mathlib.Core.Path.{sym}
use Rattle.datefield.specs.Value.{first_half}
use borrow.Author.Rules.{rules}
use Rattle.datefield.proofs.first_half.Goals as goal

pub slice_bounds-parse-end : goal.slice_bounds-parse-end
slice_bounds-parse-end c = sym (length-take-le _ _ (omega arith))

pub returns : goal.returns
unfolding first_half
returns c =
    simp (← c.parse.ensures, ← c.moved.ensures)
