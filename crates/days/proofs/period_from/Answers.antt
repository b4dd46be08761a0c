use Rattle.days.specs.Counts.{period_from}
use mir.Syntax.{w32}
use mir.ValLaws.{to_z-of_z}
use Rattle.days.proofs.period_from.Goals as goal

pub returns : goal.returns
unfolding period_from
returns c =
    let a = c.numbered in
    let b = c.numbered-2 in
    rw (to_z-of_z w32 a.result (record { sfits = a.type_inv }), to_z-of_z w32 b.result (record { sfits = b.type_inv }), a.ensures, b.ensures)
