use Prim.Native.Nat.{◌≤◌}
use lib.ListN.{length}
use Rattle.datecheck.proofs.run.Given as goal

abbrev pub invariant-loop-turn : goal.invariant-loop-turn
invariant-loop-turn g l = (l.p.from ≤ l.p.have) × (l.p.have ≤ length l.buf)
