use Prim.Native.Nat.{◌≤◌}
use Rattle.dateframes.proofs.run.Given as goal

abbrev pub invariant-loop-turn : goal.invariant-loop-turn
invariant-loop-turn g l = l.st.have ≤ 16384
