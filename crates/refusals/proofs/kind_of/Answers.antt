use mathlib.Core.Path.{sym, ap}
use Rattle.refusals.specs.Refusal.{kind_of}
use Rattle.refusals.proofs.Told.{last-is}
use Rattle.refusals.proofs.kind_of.Goals as goal

pub returns-in-1 : goal.returns-in-1
unfolding kind_of
returns-in-1 c = sym (ap kind_of c.in-1.is)

pub returns-in-2 : goal.returns-in-2
unfolding kind_of
returns-in-2 c = sym (ap kind_of c.in-2.is)

pub returns-in-3 : goal.returns-in-3
unfolding kind_of
returns-in-3 c = sym (ap kind_of c.in-3.is)

pub returns-in-4 : goal.returns-in-4
unfolding kind_of
returns-in-4 c = sym (ap kind_of c.in-4.is)

pub returns-in-5 : goal.returns-in-5
unfolding kind_of
returns-in-5 c = sym (ap kind_of c.in-5.is)

pub returns-in-6 : goal.returns-in-6
unfolding kind_of
returns-in-6 c = sym (ap kind_of c.in-6.is)

pub returns-in-7 : goal.returns-in-7
unfolding kind_of
returns-in-7 c = sym (ap kind_of c.in-7.is)

pub returns-in-8 : goal.returns-in-8
unfolding kind_of
returns-in-8 c = sym (ap kind_of c.in-8.is)

pub returns-in-9 : goal.returns-in-9
unfolding kind_of
returns-in-9 c = sym (ap kind_of c.in-9.is)

pub returns-in-10 : goal.returns-in-10
unfolding kind_of
returns-in-10 c = sym (ap kind_of c.in-10.is)

pub returns-in-11 : goal.returns-in-11
unfolding kind_of
returns-in-11 c = sym (ap kind_of c.in-11.is)

pub returns-in-12 : goal.returns-in-12
unfolding kind_of
returns-in-12 c = sym (ap kind_of c.in-12.is)

pub returns-in-13 : goal.returns-in-13
unfolding kind_of
returns-in-13 c = sym (ap kind_of c.in-13.is)

pub returns-in-14 : goal.returns-in-14
unfolding kind_of
returns-in-14 c = sym (ap kind_of c.in-14.is)

pub returns-in-15 : goal.returns-in-15
unfolding kind_of
returns-in-15 c = sym (ap kind_of c.in-15.is)

pub returns-in-16 : goal.returns-in-16
unfolding kind_of
returns-in-16 c = sym (ap kind_of c.in-16.is)

pub returns-in-17 : goal.returns-in-17
unfolding kind_of
returns-in-17 c = sym (ap kind_of c.in-17.is)

pub returns-in-18 : goal.returns-in-18
unfolding kind_of
returns-in-18 c = sym (ap kind_of c.in-18.is)

pub returns-in-19 : goal.returns-in-19
unfolding kind_of
returns-in-19 c = sym (ap kind_of c.in-19.is)

pub returns-in-20 : goal.returns-in-20
unfolding kind_of
returns-in-20 c = sym (ap kind_of c.in-20.is)

pub returns-in-21 : goal.returns-in-21
unfolding kind_of
returns-in-21 c = sym (ap kind_of c.in-21.is)

pub returns-in-22 : goal.returns-in-22
unfolding kind_of
returns-in-22 c = sym (ap kind_of c.in-22.is)

pub returns-in-23 : goal.returns-in-23
unfolding kind_of
returns-in-23 c = sym (ap kind_of c.in-23.is)

pub returns-in-24 : goal.returns-in-24
unfolding kind_of
returns-in-24 c = sym (ap kind_of c.in-24.is)

pub returns-in-25 : goal.returns-in-25
unfolding kind_of
returns-in-25 c = sym (ap kind_of c.in-25.is)

pub returns-in_default : goal.returns-in_default
returns-in_default c = last-is _ c.in_default.in_default-own.rest
