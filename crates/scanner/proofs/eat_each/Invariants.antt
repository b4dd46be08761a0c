use Rattle.scanner.specs.Scan.{eat_while}
use Rattle.chars.proofs.Below.{at}
use Rattle.scanner.proofs.Laws.{match-fits, go, stop}
use lib.ListN.{length}
use Prim.Native.Nat.{◌-◌, ◌≤◌, ◌<◌}
use borrow.Author.Rules.{rules}
use native.Mathlib.Omega.{arith}
use mathlib.Core.Path.{sym, ◌∙◌, refl, ◌≡◌}
use Rattle.scanner.proofs.eat_each.Given as goal

abbrev pub invariant-loop-class : goal.invariant-loop-class
invariant-loop-class l = eat_while l.class l.s l.i ≡ eat_while l.class l.s l.at

abbrev pub decreases-loop-class : goal.decreases-loop-class
decreases-loop-class l = length l.s - l.i
