use mathlib.Core.List.{[]}
use Prim.Native.Nat.{◌-◌, ◌≤◌}
use lib.ListN.{length, drop}
use Rattle.lines.specs.Runs.{Onward}
use Rattle.frames.specs.Frame.{line_answer}
use Rattle.dateframes.proofs.steps.Given as goal

abbrev pub invariant-loop-good : goal.invariant-loop-good
invariant-loop-good g l = (l.at ≤ length l.block) × Onward line_answer 16384 [] l.block l.long (drop l.at l.block) l.l

abbrev pub decreases-loop-good : goal.decreases-loop-good
decreases-loop-good g l = length l.block - l.at
