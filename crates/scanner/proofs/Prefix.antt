-- Whether a text begins with another, as the library's `starts_with` tells it.
-- Assumes nothing.
use mathlib.Core.Path.{◌≡◌, refl, ap}
use mathlib.Core.Bool.{◌&&◌}
use mathlib.Core.List.{List, [], ◌∷◌}
use Prim.Native.Nat.{ℕ}
use lib.Dec.{eqb}
use Rattle.std.specs.List.{starts_with}
use Rattle.scanner.specs.Scan.{begins}

pub begins-starts : (t s : List ℕ) → starts_with eqb s t ≡ begins t s
unfolding begins
begins-starts [] s = refl
begins-starts (x ∷ t) [] = refl
begins-starts (x ∷ t) (y ∷ s) = ap (λ b. eqb x y && b) (begins-starts t s)
