use mathlib.Core.Path.{sym}
use Rattle.sheets.proofs.OneDate.{six-as}
use Rattle.sheets.proofs.six_own.Goals as goal

pub returns-then-any_quote : goal.returns-then-any_quote
returns-then-any_quote c = c.six_copied.ensures

pub returns : goal.returns
returns c = let a = c.args in
    let q = c.any_quote.ensures c.if-any_quote.false in
    six-as a.line a.key.now (sym q.year_is) (sym q.month_is) (sym q.day_is) (sym q.endyear_is) (sym q.endmonth_is) (sym q.endday_is) c.six_texts.ensures
