use native.Mathlib.Omega.{arith}
use Rattle.chars.specs.Pick.{pick}
use Rattle.frames.specs.Lists.{optional_end}
use borrow.Author.Rules.{rules}
use Rattle.frames.proofs.optional_end.Goals as goal

pub returns-then-has_list : goal.returns-then-has_list
unfolding optional_end pick
returns-then-has_list c =
    let q = c.list_end.ensures in
    (simp (← c.has_list.ensures, c.if-has_list.true, ← q.0), omega (arith, q.1))

pub returns : goal.returns
unfolding optional_end pick
returns c =
    (simp (← c.has_list.ensures, c.if-has_list.false), omega arith)
