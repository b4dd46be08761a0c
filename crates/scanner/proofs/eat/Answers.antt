use Rattle.chars.proofs.Below.{at}
use native.Mathlib.Omega.{arith}
use mathlib.Core.Path.{sym, ◌∙◌}
use Rattle.chars.proofs.Laws.{found}
use Rattle.scanner.specs.Scan.{eat_at, eaten}
use borrow.Author.Rules.{rules}
use Rattle.scanner.proofs.eat.Goals as goal

pub enum_known-code : goal.enum_known-code
enum_known-code c = c.in-Char.in-Char-own.keys1

pub overflow_add-result : goal.overflow_add-result
overflow_add-result c =
    let s = c.args.s.now in
    let at = c.args.c.0 in
    omega (arith, (found s at (sym c.decode_at.ensures ∙ c.in-Char.is)).inside, (found s at (sym c.decode_at.ensures ∙ c.in-Char.is)).some)

pub enum_told-1 : goal.enum_told-1
enum_told-1 c = c.in-Bad.in-Bad-own.keys2

pub enum_told-in-End : goal.enum_told-in-End
enum_told-in-End c = c.in-End.in-End-own.keys3

pub returns-in-Char : goal.returns-in-Char
unfolding eat_at eaten
returns-in-Char c =
    simp (← c.decode_at.ensures, c.in-Char.is)

pub returns-in-Bad : goal.returns-in-Bad
unfolding eat_at eaten
returns-in-Bad c =
    simp (← c.decode_at.ensures, c.in-Bad.is)

pub returns-in-End : goal.returns-in-End
unfolding eat_at eaten
returns-in-End c =
    simp (← c.decode_at.ensures, c.in-End.is)
