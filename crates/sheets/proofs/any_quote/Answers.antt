use mathlib.Core.Path.{sym}
use mathlib.Core.Bool.{false≢true}
use Rattle.sheets.proofs.any_quote.Goals as goal

pub returns-then-has_quote : goal.returns-then-has_quote
returns-then-has_quote c = λ e. absurd (false≢true (sym e))

pub returns-then-has_quote-2 : goal.returns-then-has_quote-2
returns-then-has_quote-2 c = λ e. absurd (false≢true (sym e))

pub returns-then-has_quote-3 : goal.returns-then-has_quote-3
returns-then-has_quote-3 c = λ e. absurd (false≢true (sym e))

pub returns-then-has_quote-4 : goal.returns-then-has_quote-4
returns-then-has_quote-4 c = λ e. absurd (false≢true (sym e))

pub returns-then-has_quote-5 : goal.returns-then-has_quote-5
returns-then-has_quote-5 c = λ e. absurd (false≢true (sym e))

pub returns : goal.returns
returns c = λ e. record { year_is = c.has_quote.ensures c.if-has_quote.false; month_is = c.has_quote-2.ensures c.if-has_quote-2.false; day_is = c.has_quote-3.ensures c.if-has_quote-3.false; endyear_is = c.has_quote-4.ensures c.if-has_quote-4.false; endmonth_is = c.has_quote-5.ensures c.if-has_quote-5.false; endday_is = c.has_quote-6.ensures e }
