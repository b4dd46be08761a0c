use Rattle.headers.specs.Header.{no_row}
use borrow.Author.Rules.{rules}
use Rattle.headers.proofs.no_row.Goals as goal

pub returns-in-QuoteInside : goal.returns-in-QuoteInside
unfolding no_row
returns-in-QuoteInside c =
    simp c.in-QuoteInside.is

pub returns-in-TextBehind : goal.returns-in-TextBehind
unfolding no_row
returns-in-TextBehind c =
    simp c.in-TextBehind.is

pub returns-in-LoneReturn : goal.returns-in-LoneReturn
unfolding no_row
returns-in-LoneReturn c = simp c.in-LoneReturn.is

pub returns-in-NeverClosed : goal.returns-in-NeverClosed
unfolding no_row
returns-in-NeverClosed c =
    simp c.in-NeverClosed.is

pub returns-in-TooLong : goal.returns-in-TooLong
unfolding no_row
returns-in-TooLong c =
    simp c.in-TooLong.is

pub returns-in-TooMany : goal.returns-in-TooMany
unfolding no_row
returns-in-TooMany c = simp c.in-TooMany.is
