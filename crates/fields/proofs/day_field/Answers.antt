use Rattle.fields.proofs.Days.{day_in}
use native.Mathlib.Omega.{arith}
use mathlib.Core.Path.{sym, ◌∙◌}
use Rattle.fields.proofs.day_field.Goals as goal

pub overflow_sub-result : goal.overflow_sub-result
overflow_sub-result c = let h = day_in _ (sym c.is_day.ensures ∙ c.if-is_day.true) in omega arith

pub overflow_cast-result : goal.overflow_cast-result
overflow_cast-result c = let h = day_in _ (sym c.is_day.ensures ∙ c.if-is_day.true) in omega arith
