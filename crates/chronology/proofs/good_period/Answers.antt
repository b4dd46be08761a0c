use borrow.Author.Tests.{not-true, not-false}
use mathlib.Core.Path.{sym, ◌∙◌}
use borrow.Author.Rules.{rules}
use Rattle.chronology.proofs.Signs.{period-first, period-last, period-both}
use Rattle.chronology.proofs.good_period.Goals as goal

pub returns-then-not-in_span : goal.returns-then-not-in_span
returns-then-not-in_span c =
    period-first c.args.period (record { sfits = c.struct_told-1.given.0.1 }) (record { sfits = c.struct_told-2-1.given.1.0.1 })
    (sym c.in_span.ensures ∙ c.if-not-in_span.true)

pub returns-then-not-in_span-2 : goal.returns-then-not-in_span-2
returns-then-not-in_span-2 c =
    period-last c.args.period (record { sfits = c.struct_told-1.given.0.1 }) (record { sfits = c.struct_told-2-1.given.1.0.1 })
    (sym c.in_span.ensures ∙ c.if-not-in_span.false) (sym c.in_span-2.ensures ∙ c.if-not-in_span-2.true)

pub returns : goal.returns
returns c =
    period-both c.args.period (record { sfits = c.struct_told-1.given.0.1 }) (record { sfits = c.struct_told-2-1.given.1.0.1 })
    (sym c.in_span.ensures ∙ c.if-not-in_span.false) (sym c.in_span-2.ensures ∙ c.if-not-in_span-2.false)
