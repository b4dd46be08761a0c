use Rattle.scanner.specs.declared.Class.TheVariants.{Whitespace}
use Rattle.chars.proofs.Laws.{found}
use Rattle.scanner.proofs.Laws.{at_least}
use lib.ListN.{length}
use Prim.Native.Nat.{◌+◌, ◌≤◌}
use native.Mathlib.Omega.{arith}
use mathlib.Core.Path.{sym, ◌∙◌}
use Rattle.numbers.specs.Trim.{trim_step, step_over, step_by}
use borrow.Author.Rules.{rules}
use Rattle.numbers.proofs.trim_step.Goals as goal
use Rattle.numbers.proofs.trim_step.Goals.{After-struct_known-1}

-- a character that stands behind the white space lies within the text
inside : (c : After-struct_known-1) → c.eat_whitespace-a.result.0 + c.in-Char.len ≤ length c.args.s.now
inside c =
    let e = found c.args.s.now c.eat_whitespace-a.result.0 (sym c.decode_at.ensures ∙ c.in-Char.is) in
    omega (arith, e.some, e.inside)

pub overflow_add-result : goal.overflow_add-result
overflow_add-result c = omega (arith, inside (goal.at.overflow_add-result c).After-struct_known-1)

pub overflow_sub-result : goal.overflow_sub-result
overflow_sub-result c = let a = c.args in let h : a.i ≤ c.eat_whitespace-a.result.0 = rw c.eat_whitespace-a.ensures (at_least Whitespace a.s.now a.i) in omega arith

pub returns-in-Char : goal.returns-in-Char
unfolding trim_step step_over step_by
returns-in-Char c =
    simp (← c.eat_whitespace-a.ensures, ← c.decode_at.ensures, c.in-Char.is)

pub returns-in-Bad : goal.returns-in-Bad
unfolding trim_step step_over step_by
returns-in-Bad c =
    simp (← c.eat_whitespace-a.ensures, ← c.decode_at.ensures, c.in-Bad.is)

pub returns-in-End : goal.returns-in-End
unfolding trim_step step_over step_by
returns-in-End c =
    simp (← c.eat_whitespace-a.ensures, ← c.decode_at.ensures, c.in-End.is)
