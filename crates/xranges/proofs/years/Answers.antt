use Rattle.xranges.proofs.Bounds.{bounded}
use native.Mathlib.Omega.{arith}
use Rattle.xranges.specs.Range.{years}
use Rattle.xranges.proofs.years.Goals as goal

pub overflow_mul-year : goal.overflow_mul-year
overflow_mul-year c = omega (arith, bounded c.args.digits c.args.variable (omega arith) (omega arith))

pub date-requires : goal.date-requires
date-requires c = omega (arith, bounded c.args.digits c.args.variable (omega arith) (omega arith))

pub overflow_add-year : goal.overflow_add-year
overflow_add-year c = omega (arith, bounded c.args.digits c.args.variable (omega arith) (omega arith))

pub date-requires-2 : goal.date-requires-2
date-requires-2 c = omega (arith, bounded c.args.digits c.args.variable (omega arith) (omega arith))

pub returns : goal.returns
unfolding years
returns c =
    simp (← c.date.ensures, ← c.date-2.ensures)
