use mathlib.Core.Path.{ap, ◌∙◌}
use lib.IntN.{ℤ, pos, ◌+ℤ◌, ◌*ℤ◌}
use Rattle.dates.proofs.Signs.{wide_fits}
use Rattle.instants.specs.Instants.{seconds_at}
use Rattle.instants.proofs.Sums.{times-fits, plus-fits, plus}
use Rattle.instants.proofs.seconds_at.Goals as goal

pub overflow_cast-result : goal.overflow_cast-result
overflow_cast-result c = wide_fits c.args.day c.ranges.day

pub overflow_mul-result : goal.overflow_mul-result
overflow_mul-result c = times-fits c.args.day c.ranges.day

pub overflow_add-result : goal.overflow_add-result
overflow_add-result c =
    let u = c.to_utc_seconds in
    plus-fits c.args.day c.ranges.day u.result (record { sfits = u.type_inv }) u.ensures.1

pub returns : goal.returns
unfolding seconds_at
returns c =
    let u = c.to_utc_seconds in
    let day = c.args.day in
    plus day c.ranges.day u.result (record { sfits = u.type_inv }) u.ensures.1 ∙ ap (λ (z : ℤ). day *ℤ pos 86400 +ℤ z) u.ensures.0
