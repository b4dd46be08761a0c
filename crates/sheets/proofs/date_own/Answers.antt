use Rattle.sheets.proofs.OneDate.{text-told}
use mathlib.Core.Path.{sym}
use Rattle.sheets.proofs.date_own.Goals as goal

pub returns-then-has_quote : goal.returns-then-has_quote
returns-then-has_quote c = c.date_copied.ensures

pub returns : goal.returns
returns c =
    let a = c.args in
    text-told a.line a.key.now a.column (sym (c.has_quote.ensures c.if-has_quote.false)) c.date_text.ensures
