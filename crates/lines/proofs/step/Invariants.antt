use mathlib.Core.Path.{sym, ap, ◌∙◌, subst}
use Prim.Native.Nat.{ℕ, ◌-◌}
use Rattle.lines.specs.declared.Taken.{Taken}
use Rattle.lines.specs.Steps.{taken_at, Stepped}
use Rattle.frames.specs.Frame.{line_answer}
use native.Mathlib.Omega.{arith}
use lib.ListN.{length}
use borrow.Author.Rules.{rules}
use Rattle.frames.proofs.Lengths.{frames-some}
use Rattle.lines.proofs.Ways.{frames-long}
use Rattle.lines.proofs.Moves.{Sofar, begun, end_in, no_feed, next, stopped, ended}
use Rattle.lines.proofs.step.Given as goal

abbrev pub invariant-loop-long : goal.invariant-loop-long
invariant-loop-long l = Sofar line_answer 16384 l.long l.block l.initial.out l.out l.at l.l l.p

abbrev pub decreases-loop-long : goal.decreases-loop-long
decreases-loop-long l = length l.block - l.at
