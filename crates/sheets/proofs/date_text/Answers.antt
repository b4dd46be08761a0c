use Rattle.sheets.proofs.OneDate.{date-told}
use Rattle.sheets.proofs.date_text.Goals as goal

pub returns : goal.returns
returns c =
    let a = c.args in
    date-told a.line a.key.now a.column a.cell.now c.date_verdict-v.ensures c.say_date-put.ensures c.one_date.ensures
