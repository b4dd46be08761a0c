use Rattle.scanner.specs.Scan.{eat_while}
use Rattle.chars.proofs.Below.{at}
use Rattle.scanner.proofs.Laws.{match-fits, go, stop}
use lib.ListN.{length}
use Prim.Native.Nat.{◌-◌, ◌≤◌, ◌<◌}
use borrow.Author.Rules.{rules}
use native.Mathlib.Omega.{arith}
use mathlib.Core.Path.{sym, ◌∙◌, refl, ◌≡◌}
use Rattle.scanner.proofs.eat_each.Goals as goal

-- what a turn knows: the length of the match is not 0, and lies within the text
fits : (c : goal.Else-n-eq0) → (0 < c.match_len-n.result) × (c.match_len-n.result ≤ length c.args.s.now - c.loop-class.i)
fits c = omega (arith, match-fits c.args.class c.args.s.now c.loop-class.i)

pub loop-class-init : goal.loop-class-init
loop-class-init c = refl

pub returns-then-n-eq0 : goal.returns-then-n-eq0
returns-then-n-eq0 c = sym (stop _ _ _ (sym c.match_len-n.ensures ∙ c.if-n-eq0.true)) ∙ c.loop-class.invariant

pub overflow_add-i : goal.overflow_add-i
overflow_add-i c = omega (arith, fits c)

pub loop-class-smaller : goal.loop-class-smaller
loop-class-smaller c = omega (arith, fits c)

pub loop-class-preserved : goal.loop-class-preserved
loop-class-preserved c = rw c.match_len-n.ensures (sym (go _ _ _ (omega (arith, fits c))) ∙ c.loop-class.invariant)
