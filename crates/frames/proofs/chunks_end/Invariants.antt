use mathlib.Core.Path.{◌≡◌}
use Prim.Native.Nat.{◌+◌, ◌-◌, ◌*◌, ◌≤◌}
use Rattle.frames.specs.Lists.{end_of}
use Rattle.frames.proofs.chunks_end.Given as goal

abbrev pub invariant-loop-i : goal.invariant-loop-i
invariant-loop-i l = (end_of l.f l.p (l.n - l._i) ≡ end_of l.f l.at l.n) × (l.p ≤ l.at + 265 * l._i)
