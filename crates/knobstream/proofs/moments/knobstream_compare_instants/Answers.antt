use mir.Syntax.{w32}
use mir.ValLaws.{to_z-of_z}
use Rattle.knobstream.specs.Plain.{compared_number}
use mathlib.Core.Path.{ap, ◌∙◌}
use Rattle.knobstream.proofs.Made.{made-instants}
use borrow.Author.Rules.{rules}
use Rattle.knobstream.proofs.moments.knobstream_compare_instants.Goals as goal

pub returns : goal.returns
returns c =
    let p = c.plain_compared in
    to_z-of_z w32 p.result (record { sfits = p.type_inv }) ∙ (p.ensures ∙ ap compared_number (made-instants c.datetime_of-x.ensures c.datetime_of-y.ensures c.compare.ensures))
