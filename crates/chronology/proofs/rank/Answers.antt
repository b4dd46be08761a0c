use mathlib.Core.Path.{◌≡◌, sym, ap, ◌∙◌}
use mathlib.Core.Bool.{not}
use native.Mathlib.Nat.{zero-add}
use native.Mathlib.Omega.{arith}
use Rattle.chronology.specs.Entries.{precedes}
use Rattle.chronology.specs.Store.{rank}
use Rattle.chronology.proofs.Columns.{room, where_found, where-passed, where-end}
use Rattle.chronology.proofs.rank.Goals as goal

pub loop-i-init : goal.loop-i-init
unfolding rank
loop-i-init c = sym (zero-add _)

pub entry_at-x-requires : goal.entry_at-x-requires
entry_at-x-requires c =
    (omega arith, c.requires.1.of_firsts, c.requires.1.of_lasts, c.requires.1.of_ids)

pub returns-then-not-precedes : goal.returns-then-not-precedes
unfolding rank
returns-then-not-precedes c =
    (where_found _ (room _ c.requires.1 c.requires.0) c.loop-i.i (λ x. not (precedes x c.args.e)) c.loop-i-test.true c.entry_at-x.ensures (ap not (sym c.precedes.ensures) ∙ ap not c.if-not-precedes.true) ∙ sym c.loop-i.invariant, omega arith)

pub loop-i-preserved : goal.loop-i-preserved
unfolding rank
loop-i-preserved c =
    c.loop-i.invariant ∙ where-passed _ (room _ c.requires.1 c.requires.0) c.loop-i.i (λ x. not (precedes x c.args.e)) c.loop-i-test.true c.entry_at-x.ensures (ap not (sym c.precedes.ensures) ∙ ap not c.if-not-precedes.false)

pub returns : goal.returns
unfolding rank
returns c =
    let e : c.args.count.now ≡ c.loop-i.i = omega arith in
    (e ∙ where-end _ (room _ c.requires.1 c.requires.0) c.loop-i.i (λ x. not (precedes x c.args.e)) c.loop-i-test.false ∙ sym c.loop-i.invariant, omega arith)
