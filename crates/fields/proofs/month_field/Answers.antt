use Rattle.numbers.specs.declared.Digits.TheVariants.{OneOrTwo}
use Rattle.numbers.proofs.Laws.{unsigned-value}
use native.Mathlib.Omega.{arith}
use mathlib.Core.Path.{sym, ◌∙◌}
use Rattle.fields.proofs.month_field.Goals as goal

pub overflow_cast-m : goal.overflow_cast-m
overflow_cast-m c = let h = unsigned-value _ _ OneOrTwo (sym c.parse_unsigned_int.ensures ∙ c.in-Ok.is) in omega arith
