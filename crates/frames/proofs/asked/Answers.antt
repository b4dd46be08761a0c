use Rattle.chars.specs.Pick.{pick}
use Rattle.frames.specs.Frame.{asked}
use borrow.Author.Tests.{ne_eqb}
use Rattle.frames.proofs.asked.Goals as goal

pub returns-in-1 : goal.returns-in-1
unfolding asked pick
returns-in-1 c = simp c.in-1.is

pub returns-in-2 : goal.returns-in-2
unfolding asked pick
returns-in-2 c = simp c.in-2.is

pub returns-in-3 : goal.returns-in-3
unfolding asked pick
returns-in-3 c = simp c.in-3.is

pub returns-in-4 : goal.returns-in-4
unfolding asked pick
returns-in-4 c = simp c.in-4.is

pub returns-in-5 : goal.returns-in-5
unfolding asked pick
returns-in-5 c = simp c.in-5.is

pub returns-in_default : goal.returns-in_default
unfolding asked pick
returns-in_default c =
    simp (
      ne_eqb _ _ c.in_default.in_default-own.rest.1,
      ne_eqb _ _ c.in_default.in_default-own.rest.0.1,
      ne_eqb _ _ c.in_default.in_default-own.rest.0.0.1,
      ne_eqb _ _ c.in_default.in_default-own.rest.0.0.0.1,
      ne_eqb _ _ c.in_default.in_default-own.rest.0.0.0.0.1,
    )
