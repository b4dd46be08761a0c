use mathlib.Core.Path.{◌≡◌}
use Prim.Native.Nat.{◌≤◌}
use lib.ListN.{length, drop}
use Rattle.headers.specs.Names.{starts_so, is_name}
use Rattle.headers.proofs.is_name.Given as goal

abbrev pub invariant-loop-c : goal.invariant-loop-c
invariant-loop-c l = (starts_so (drop l.c-index l.name) (drop l.i l.s) ≡ is_name l.name l.s) × (l.i ≤ length l.s)
