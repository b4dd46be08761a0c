-- Tests in a row, as the definitions write them. Assumes nothing.
use mathlib.Core.Path.{◌≡◌, refl}
use mathlib.Core.Bool.{Bool, true, false, false≢true}
use Rattle.chars.specs.Pick.{pick}

-- both of two tests hold
pub both : (a b : Bool) → pick a b false ≡ true → (a ≡ true) × (b ≡ true)
unfolding pick
both true b e = (refl, e)
both false b e = absurd (false≢true e)
