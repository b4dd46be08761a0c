use mathlib.Core.Path.{sym, ◌∙◌}
use Rattle.sheets.proofs.OneDate.{date-nothing}
use native.Mathlib.Omega.{arith}
use Rattle.sheets.proofs.say_date.Goals as goal

pub returns-then-is_said : goal.returns-then-is_said
returns-then-is_said c = rw (← c.windowed_if-windowed.ensures) c.put_date.ensures

pub returns : goal.returns
returns c =
    let a = c.args in
    date-nothing a.line a.key.now a.column a.cell.now a.out.now a.p (omega arith) a.v _ (sym c.is_said.ensures ∙ c.if-is_said.false)
