use mathlib.Core.Path.{◌≡◌}
use Prim.Native.Nat.{◌≤◌}
use lib.ListN.{length}
use Rattle.scanner.specs.declared.Class.TheVariants.{Whitespace}
use Rattle.scanner.specs.Scan.{eat_while}
use Rattle.scanner.proofs.eat_spaces.Given as goal

abbrev pub invariant-loop-i : goal.invariant-loop-i
invariant-loop-i l = (eat_while Whitespace l.s l.i ≡ eat_while Whitespace l.s l.at) × (l.at ≤ length l.s → l.i ≤ length l.s)
