use Rattle.pages.specs.Pieces.{total}
use lib.Dec.{eqb}
use lib.ListN.{drop}
use Prim.Native.Nat.{◌*◌}
use mathlib.Core.Path.{◌≡◌}
use Rattle.pages.proofs.counts_fit.Given as goal

abbrev pub invariant-loop-n : goal.invariant-loop-n
invariant-loop-n l = eqb (4 * total (drop l.n-index l.counts)) l.left ≡ eqb (4 * total l.counts) l.numbers
