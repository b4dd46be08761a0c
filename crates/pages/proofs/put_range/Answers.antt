use Rattle.pages.specs.Pieces.{numbers_of}
use Rattle.pages.proofs.Walk.{two-numbers}
use lib.ListN.{length-set}
use native.Mathlib.Omega.{arith}
use Rattle.pages.proofs.put_range.Goals as goal

pub bounds-out-at-in-Ok : goal.bounds-out-at-in-Ok
bounds-out-at-in-Ok c = simp length-set (omega arith)

pub returns-in-Ok : goal.returns-in-Ok
returns-in-Ok c = two-numbers c.args.out.now c.args.at _ _ c.in-Ok.is

pub returns-in_default : goal.returns-in_default
unfolding numbers_of
returns-in_default c = simp c.in_default.is
