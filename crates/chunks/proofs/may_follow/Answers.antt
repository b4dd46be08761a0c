use Rattle.chars.specs.Pick.{pick}
use Rattle.chars.specs.Utf8.{is_cont}
use Rattle.chunks.specs.Latin.{is_lead, may_follow}
use lib.Dec.{ltb}
use mathlib.Core.Bool.{Bool, true, false, not, ◌&&◌, ◌||◌, or-false}
use mathlib.Core.Path.{◌≡◌, refl}
use borrow.Author.Rules.{rules}
use Rattle.chunks.proofs.may_follow.Goals as goal

either : (t x y : Bool) → (t && x || not t && y) ≡ pick t x y
unfolding pick
either true x y = or-false x
either false x y = refl

pub returns : goal.returns
unfolding may_follow is_cont
returns c =
    let a = c.args in
    rw (c.is_lead-open.ensures, c.is_lead-opens.ensures) (either (is_lead a.p) (is_cont a.b) (ltb a.b 0x80 || is_lead a.b))
