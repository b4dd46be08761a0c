use mathlib.Core.Path.{◌≡◌}
use lib.ListN.{take}
use Rattle.codes.specs.Texts.{unspaced}
use Rattle.codes.proofs.shed_each.Given as goal

abbrev pub invariant-loop-n : goal.invariant-loop-n
invariant-loop-n l = unspaced (take l.n l.s) ≡ unspaced (take l.end l.s)
