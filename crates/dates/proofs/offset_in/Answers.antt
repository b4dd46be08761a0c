use Rattle.dates.specs.Clocks.{offset_in}
use borrow.Author.Tests.{le-leb, lt-leb}
use Rattle.dates.proofs.offset_in.Goals as goal

pub enum_told-1 : goal.enum_told-1
enum_told-1 c = c.in-Utc.in-Utc-own.keys1

pub enum_known-o : goal.enum_known-o
enum_known-o c = c.in-Offset.in-Offset-own.keys2

pub returns-then-hours-le23 : goal.returns-then-hours-le23
unfolding offset_in
returns-then-hours-le23 c =
    simp (c.in-Offset.is, le-leb _ _ c.if-hours-le23.true)

pub returns-in-Utc : goal.returns-in-Utc
unfolding offset_in
returns-in-Utc c = simp c.in-Utc.is

pub returns-else-hours-le23 : goal.returns-else-hours-le23
unfolding offset_in
returns-else-hours-le23 c =
    simp (c.in-Offset.is, lt-leb _ _ c.if-hours-le23.false)
