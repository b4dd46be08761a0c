use Rattle.scanner.proofs.Laws.{match-fits}
use native.Mathlib.Omega.{arith}
use Rattle.chars.specs.Pick.{pick}
use Rattle.scanner.specs.Scan.{eat_if}
use borrow.Author.Tests.{eq-eqb, ne_eqb}
use borrow.Author.Rules.{rules}
use Rattle.scanner.proofs.eat_if.Goals as goal

pub returns-then-n-eq0 : goal.returns-then-n-eq0
unfolding eat_if pick
returns-then-n-eq0 c =
    simp (← c.match_len-n.ensures, eq-eqb _ _ c.if-n-eq0.true)

pub overflow_add-result : goal.overflow_add-result
overflow_add-result c = omega (arith, match-fits c.args.class c.args.s.now c.args.c.0)

pub returns : goal.returns
unfolding eat_if pick
returns c =
    simp (← c.match_len-n.ensures, ne_eqb _ _ c.if-n-eq0.false)
