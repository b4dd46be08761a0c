use lib.ListN.{drop}
use mathlib.Core.Path.{sym, ◌∙◌}
use native.Mathlib.Omega.{arith}
use Rattle.strict.proofs.Pieces.{field-within}
use Rattle.strict.proofs.unknown_parts.Goals as goal

pub days-requires : goal.days-requires
days-requires c =
    omega (arith, field-within 45 1 12 (drop 4 c.args.s.now) (sym c.field_at.ensures ∙ c.in_ok-month.was))
