use native.Mathlib.Omega.{arith}
use mathlib.Core.Path.{◌∙◌}
use Rattle.chronology.proofs.Columns.{room, before-one, before-none}
use borrow.Author.Rules.{rules}
use Rattle.chronology.proofs.before_next.Goals as goal

pub entry_at-e-requires : goal.entry_at-e-requires
entry_at-e-requires c =
    (omega arith, c.requires.2.of_firsts, c.requires.2.of_lasts, c.requires.2.of_ids)

pub overflow_add-i-then-i-count : goal.overflow_add-i-then-i-count
overflow_add-i-then-i-count c = omega arith

pub entry_at-next-requires : goal.entry_at-next-requires
entry_at-next-requires c =
    (omega arith, c.requires.2.of_firsts, c.requires.2.of_lasts, c.requires.2.of_ids)

pub returns-then-i-count : goal.returns-then-i-count
returns-then-i-count c =
    c.precedes.ensures ∙ before-one _ (room _ c.requires.2 c.requires.1) c.args.i c.if-i-count.true c.entry_at-e.ensures c.entry_at-next.ensures

pub returns : goal.returns
returns c =
    before-none _ (room _ c.requires.2 c.requires.1) c.args.i c.if-i-count.false
