use Rattle.sheets.proofs.OneDate.{six-told}
use Rattle.sheets.proofs.six_texts.Goals as goal

pub returns : goal.returns
returns c = let a = c.args in
    six-told a.line a.key.now a.year.now a.month.now a.day.now a.endyear.now a.endmonth.now a.endday.now c.six_verdict-v.ensures c.say_six-put.ensures c.one_date.ensures
