use mathlib.Core.Path.{sym, ◌∙◌}
use native.Mathlib.Omega.{arith}
use Rattle.chronology.proofs.Columns.{room, kept-good, kept-before}
use Rattle.chronology.proofs.Marks.{kept-alone}
use borrow.Author.Rules.{rules}
use Rattle.chronology.proofs.kept_at.Goals as goal

pub entry_at-e-requires : goal.entry_at-e-requires
entry_at-e-requires c =
    (omega arith, c.requires.2.of_firsts, c.requires.2.of_lasts, c.requires.2.of_ids)

pub before_next-requires : goal.before_next-requires
before_next-requires c = (c.requires.0, c.requires.1, c.requires.2)

pub overflow_add-i : goal.overflow_add-i
overflow_add-i c = omega arith

pub alone-requires : goal.alone-requires
alone-requires c =
    (omega arith, c.requires.1, c.requires.2.of_ids, c.requires.3)

pub returns-then-before_next : goal.returns-then-before_next
returns-then-before_next c =
    kept-alone _ (room _ c.requires.2 c.requires.1) c.args.i c.entry_at-e.ensures (sym c.good_days.ensures ∙ c.if-good_days.true)
    (sym c.before_next.ensures ∙ c.if-before_next.true) c.alone.ensures

pub returns-then-good_days : goal.returns-then-good_days
returns-then-good_days c =
    kept-before _ (room _ c.requires.2 c.requires.1) c.args.i c.entry_at-e.ensures (sym c.good_days.ensures ∙ c.if-good_days.true)
    (sym c.before_next.ensures ∙ c.if-before_next.false)

pub returns : goal.returns
returns c =
    kept-good _ (room _ c.requires.2 c.requires.1) c.args.i c.entry_at-e.ensures (sym c.good_days.ensures ∙ c.if-good_days.false)
