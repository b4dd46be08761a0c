use Rattle.chars.specs.Signs.{signed}
use mir.Syntax.{w32}
use mir.ValLaws.{to_z-of_z}
use Rattle.strict.proofs.plain.Goals as goal

pub returns : goal.returns
unfolding signed
returns c =
    let z = to_z-of_z w32 c.signed.result (record { sfits = c.signed.type_inv }) in
    rw (z, c.signed.ensures) at c.new.ensures
