use mathlib.Core.Path.{◌≡◌}
use Rattle.scanner.specs.declared.Class.{Class}
use Rattle.scanner.specs.Quick.{Quick}
use Rattle.scanner.specs.Scan.{eat_while}
use Rattle.scanner.proofs.eat_bytes.Given as goal

abbrev pub invariant-loop-i : goal.invariant-loop-i
invariant-loop-i l = (k : Class) → Quick k l.lo l.hi → eat_while k l.s l.i ≡ eat_while k l.s l.at
