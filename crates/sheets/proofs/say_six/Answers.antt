use mathlib.Core.Path.{sym, ◌∙◌}
use Rattle.sheets.proofs.OneDate.{six-nothing}
use native.Mathlib.Omega.{arith}
use Rattle.sheets.proofs.say_six.Goals as goal

pub returns-then-is_said : goal.returns-then-is_said
returns-then-is_said c = c.put_six.ensures

pub returns : goal.returns
returns c =
    let a = c.args in
    six-nothing a.line a.key.now a.year.now a.month.now a.day.now a.endyear.now a.endmonth.now a.endday.now a.out.now a.p (omega arith) a.v (sym c.is_said.ensures ∙ c.if-is_said.false)
