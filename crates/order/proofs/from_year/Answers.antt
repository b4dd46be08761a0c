use Rattle.order.specs.Order.{order, from_month, in_turn}
use Rattle.order.proofs.Numbers.{signed-order, next-unequal}
use Rattle.order.proofs.from_year.Goals as goal

pub returns-in-Equal : goal.returns-in-Equal
unfolding order in_turn
returns-in-Equal c = simp (← signed-order c.args.a.year c.args.b.year, ← c.cmp.ensures, c.in-Equal.is, ← c.from_month.ensures)

pub returns-in_default : goal.returns-in_default
unfolding order
returns-in_default c =
    simp (← signed-order c.args.a.year c.args.b.year, ← c.cmp.ensures, next-unequal c.cmp.result (from_month c.args.a c.args.b) c.in_default.not-Equal)
