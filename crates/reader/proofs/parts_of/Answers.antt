use mathlib.Core.Path.{refl}
use borrow.Author.Rules.{rules}
use Rattle.reader.proofs.parts_of.Goals as goal

pub month_and_day-requires : goal.month_and_day-requires
month_and_day-requires c =
    record {
      readable = (rw c.in-Some.is at c.requires.readable) refl;
      readable_2 = (rw (c.in-Some.is, c.in-Some-day.is) at c.requires.readable_2) refl refl;
    }

pub month_alone-requires : goal.month_alone-requires
month_alone-requires c = (rw c.in-Some.is at c.requires.readable) refl
