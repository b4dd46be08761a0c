use mathlib.Core.Path.{◌≡◌, sym, ◌∙◌}
use native.Mathlib.Nat.{zero-add}
use native.Mathlib.Omega.{arith}
use Rattle.chronology.specs.Asked.{stops, stop_at}
use Rattle.chronology.proofs.Columns.{room, where_found, where-passed, where-end}
use Rattle.chronology.proofs.stop_at.Goals as goal

pub loop-i-init : goal.loop-i-init
unfolding stop_at
loop-i-init c = sym (zero-add _)

pub entry_at-e-requires : goal.entry_at-e-requires
entry_at-e-requires c =
    (omega arith, c.requires.1.of_firsts, c.requires.1.of_lasts, c.requires.1.of_ids)

pub returns-then-stops : goal.returns-then-stops
unfolding stop_at
returns-then-stops c =
    (where_found _ (room _ c.requires.1 c.requires.0) c.loop-i.i (stops c.args.period) c.loop-i-test.true c.entry_at-e.ensures (sym c.stops.ensures ∙ c.if-stops.true) ∙ sym c.loop-i.invariant, omega arith)

pub loop-i-preserved : goal.loop-i-preserved
unfolding stop_at
loop-i-preserved c =
    c.loop-i.invariant ∙ where-passed _ (room _ c.requires.1 c.requires.0) c.loop-i.i (stops c.args.period) c.loop-i-test.true c.entry_at-e.ensures (sym c.stops.ensures ∙ c.if-stops.false)

pub returns : goal.returns
unfolding stop_at
returns c =
    let e : c.args.count.now ≡ c.loop-i.i = omega arith in
    (e ∙ where-end _ (room _ c.requires.1 c.requires.0) c.loop-i.i (stops c.args.period) c.loop-i-test.false ∙ sym c.loop-i.invariant, omega arith)
