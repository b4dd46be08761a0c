-- Why the steps over a block end: what two tests say. Assumes nothing.
use mathlib.Core.Path.{◌≡◌, refl, sym, ◌∙◌}
use mathlib.Core.Bool.{Bool, true, false, ◌&&◌, false≢true}
use Rattle.chars.proofs.Cases.{and-true}

-- the steps go on only where one stopped for room
pub went_on : (full good : Bool) → full && good ≡ true → full ≡ true
went_on full good e = (and-true full good e).0

-- and end, if all was written, only where none did
pub no_stop : (full good : Bool) → full && good ≡ false → good ≡ true → full ≡ false
no_stop false good e g = refl
no_stop true good e g = absurd (false≢true (sym e ∙ g))
