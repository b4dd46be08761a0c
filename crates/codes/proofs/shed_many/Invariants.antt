use mathlib.Core.Path.{◌≡◌, sym, ap, ◌∙◌}
use Prim.Native.Nat.{ℕ, ◌+◌, ◌-◌, ◌≤◌}
use native.Mathlib.Omega.{arith}
use lib.ListN.{length, take}
use lib.Seq.{take-length}
use Rattle.codes.specs.Texts.{unspaced}
use Rattle.codes.proofs.shed_many.Given as goal

abbrev pub invariant-loop-n : goal.invariant-loop-n
invariant-loop-n l = (unspaced (take l.n l.s) ≡ unspaced l.s) × (l.n ≤ length l.s)

abbrev pub decreases-loop-n : goal.decreases-loop-n
decreases-loop-n l = l.n
