use Rattle.csv_rows.specs.Answers.{place_of}
use borrow.Author.Rules.{rules}
use Rattle.csv_rows.proofs.place_of.Goals as goal

pub returns-in-QuoteInside : goal.returns-in-QuoteInside
unfolding place_of
returns-in-QuoteInside c =
    simp c.in-QuoteInside.is

pub returns-in-TextBehind : goal.returns-in-TextBehind
unfolding place_of
returns-in-TextBehind c =
    simp c.in-TextBehind.is

pub returns-in-LoneReturn : goal.returns-in-LoneReturn
unfolding place_of
returns-in-LoneReturn c =
    simp c.in-LoneReturn.is

pub returns-in-NeverClosed : goal.returns-in-NeverClosed
unfolding place_of
returns-in-NeverClosed c =
    simp c.in-NeverClosed.is

pub returns-in-TooLong : goal.returns-in-TooLong
unfolding place_of
returns-in-TooLong c =
    simp c.in-TooLong.is

pub returns-in-TooMany : goal.returns-in-TooMany
unfolding place_of
returns-in-TooMany c = simp c.in-TooMany.is
