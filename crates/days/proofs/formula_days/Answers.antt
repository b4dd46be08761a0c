use mathlib.Core.Path.{ap, ◌∙◌}
use native.Mathlib.Omega.{arith}
use Rattle.std.specs.Prelude.{Result, Ok}
use Rattle.days.specs.declared.Period.{Period}
use Rattle.refusals.specs.declared.Refusal.{Refusal}
use Rattle.days.specs.Ways.{by_formula}
use Rattle.days.proofs.Counts.{bounds, covers}
use Rattle.days.proofs.formula_days.Goals as goal

pub by_formula-before-requires : goal.by_formula-before-requires
by_formula-before-requires c =
    let h = bounds c.args.d c.asked.ensures c.in-Some.is in
    (h.1, h.2)

pub period_from-requires : goal.period_from-requires
period_from-requires c =
    let h = bounds c.args.d c.asked.ensures c.in-Some.is in
    (omega (arith, h.3, c.by_formula-before.ensures.1), h.4, h.5)

pub returns : goal.returns
returns c =
    ap {B = Result Period Refusal} Ok c.period_from.ensures ∙ covers c.args.d c.asked.ensures c.in-Some.is by_formula c.by_formula-before.ensures.0
