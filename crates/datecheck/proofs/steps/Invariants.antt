use Prim.Native.Nat.{◌-◌, ◌≤◌}
use lib.ListN.{length, take, drop}
use Rattle.runs.specs.Runs.{Onward}
use Rattle.sheets.specs.Steps.{next}
use Rattle.datecheck.proofs.steps.Given as goal

abbrev pub invariant-loop-bytes : goal.invariant-loop-bytes
invariant-loop-bytes l = (l.at ≤ length l.block) × ((l.put ≤ length l.out) × Onward next l.last l.block l.initial.st (drop l.at l.block) l.st (take l.put l.out))

abbrev pub decreases-loop-bytes : goal.decreases-loop-bytes
decreases-loop-bytes l = length l.block - l.at
