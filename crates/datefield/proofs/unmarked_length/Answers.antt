use Rattle.datefield.proofs.Marks.{mark-some, mark-last, mark-none}
use native.Mathlib.Omega.{arith}
use Rattle.datefield.proofs.unmarked_length.Goals as goal

pub overflow_sub-result : goal.overflow_sub-result
overflow_sub-result c = let p = c.requires in omega (arith, mark-some _ p.0 p.1 c.if-uncertain-approximate.true)

pub returns-then-uncertain-approximate : goal.returns-then-uncertain-approximate
returns-then-uncertain-approximate c = let p = c.requires in (mark-last _ p.0 p.1 c.if-uncertain-approximate.true, omega arith)

pub returns : goal.returns
returns c = let p = c.requires in (mark-none _ p.0 p.1 c.if-uncertain-approximate.false, omega arith)
