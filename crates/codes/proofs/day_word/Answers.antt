use Rattle.codes.specs.Points.{day_point}
use Rattle.codes.specs.Words.{twos}
use Rattle.chars.specs.Pick.{pick}
use mir.ValLaws.{to_z-of_z}
use mir.Syntax.{w32}
use borrow.Author.Tests.{lt-ltb, le-ltb}
use borrow.Author.Rules.{rules}
use Rattle.codes.proofs.day_word.Goals as goal

pub returns-then-d-days_in_month : goal.returns-then-d-days_in_month
unfolding day_point pick twos
returns-then-d-days_in_month c =
    let y = c.signed in
    let l = rw (to_z-of_z w32 y.result (record { sfits = y.type_inv }), y.ensures) at c.days_in_month.ensures in
    simp (← c.year-y.ensures, ← c.part_at-m.ensures, ← c.part_at-d.ensures, lt-ltb _ _ c.if-y-lt10000.true, lt-ltb _ _ c.if-m-lt12.true, ← l, lt-ltb _ _ c.if-d-days_in_month.true, ← c.with_day.ensures)

pub returns-else-d-days_in_month : goal.returns-else-d-days_in_month
unfolding day_point pick twos
returns-else-d-days_in_month c =
    let y = c.signed in
    let l = rw (to_z-of_z w32 y.result (record { sfits = y.type_inv }), y.ensures) at c.days_in_month.ensures in
    simp (← c.year-y.ensures, ← c.part_at-m.ensures, ← c.part_at-d.ensures, lt-ltb _ _ c.if-y-lt10000.true, lt-ltb _ _ c.if-m-lt12.true, ← l, le-ltb _ _ c.if-d-days_in_month.false)

pub returns-else-m-lt12 : goal.returns-else-m-lt12
unfolding day_point pick twos
returns-else-m-lt12 c =
    simp (← c.year-y.ensures, ← c.part_at-m.ensures, ← c.part_at-d.ensures, lt-ltb _ _ c.if-y-lt10000.true, le-ltb _ _ c.if-m-lt12.false)

pub returns-else-y-lt10000 : goal.returns-else-y-lt10000
unfolding day_point pick twos
returns-else-y-lt10000 c =
    simp (← c.year-y.ensures, ← c.part_at-m.ensures, ← c.part_at-d.ensures, le-ltb _ _ c.if-y-lt10000.false)
