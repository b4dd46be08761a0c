use mathlib.Core.Path.{ap, ◌∙◌}
use native.Mathlib.Omega.{arith}
use Rattle.chronology.specs.Asked.{touches}
use Rattle.chronology.proofs.Asked.{walk-stops, walk_ends}
use borrow.Author.Rules.{rules}
use Rattle.chronology.proofs.walk.Goals as goal

pub entry_at-e-requires : goal.entry_at-e-requires
entry_at-e-requires c =
    (omega arith, c.requires.1.of_firsts, c.requires.1.of_lasts, c.requires.1.of_ids)

pub overflow_add-result : goal.overflow_add-result
overflow_add-result c = omega arith

pub returns-then-at-count : goal.returns-then-at-count
returns-then-at-count c =
    let p = c.args.period in
    walk-stops _ p c.stop_at-at.ensures.0 c.if-at-count.true (c.touches.ensures ∙ ap (touches p) c.entry_at-e.ensures)

pub returns : goal.returns
returns c =
    walk_ends _ c.args.period c.stop_at-at.ensures.0 c.if-at-count.false
