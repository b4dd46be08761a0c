use Rattle.order.specs.Order.{from_month, from_day, both, month_of, in_turn}
use Rattle.order.proofs.Numbers.{stored-order, next-unequal}
use Rattle.order.proofs.from_month.Goals as goal

pub returns-in-Equal : goal.returns-in-Equal
unfolding from_month both month_of in_turn
returns-in-Equal c =
    simp (c.in-Some-Some.is-0, c.in-Some-Some.is-1, ← stored-order c.in-Some-Some.m.0 c.in-Some-Some.n.0, ← c.cmp.ensures, c.in-Equal.is, ← c.from_day.ensures)

pub returns-in_default-cmp : goal.returns-in_default-cmp
unfolding from_month both month_of
returns-in_default-cmp c =
    simp (c.in-Some-Some.is-0, c.in-Some-Some.is-1, ← stored-order c.in-Some-Some.m.0 c.in-Some-Some.n.0, ← c.cmp.ensures, next-unequal c.cmp.result (from_day c.args.a c.args.b) c.in_default-cmp.not-Equal)
