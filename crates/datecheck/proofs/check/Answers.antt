use mathlib.Core.Path.{sym}
use Prim.Native.Nat.{ℕ}
use lib.ListN.{length-replicate}
use Rattle.datecheck.proofs.check.Goals as goal

-- the length of so many zeros is not to be counted
pub slice_bounds-run-end : goal.slice_bounds-run-end
slice_bounds-run-end g c = sym (length-replicate {0} {A = ℕ} _ 0)

pub slice_bounds-run-end-2 : goal.slice_bounds-run-end-2
slice_bounds-run-end-2 g c = sym (length-replicate {0} {A = ℕ} _ 0)
