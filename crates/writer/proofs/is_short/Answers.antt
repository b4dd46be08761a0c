use Prim.Native.Nat.{ℕ}
use lib.Dec.{ltb}
use lib.IntN.{nat_abs}
use mathlib.Core.Path.{ap, ◌∙◌}
use mir.Syntax.{w32}
use mir.ValLaws.{to_z-of_z}
use borrow.Author.Rules.{rules}
use Rattle.writer.proofs.is_short.Goals as goal

pub returns : goal.returns
returns c =
    ap (λ (n : ℕ). ltb n 10000) (c.magnitude.ensures ∙ ap nat_abs (to_z-of_z w32 c.args.year c.ranges.year))
