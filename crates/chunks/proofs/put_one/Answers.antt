use Rattle.chars.specs.Classes.{is_whitespace}
use Rattle.chunks.specs.Format.{one_out}
use Rattle.chunks.proofs.Plains.{break-white}
use Rattle.chars.specs.Utf8.{encode}
use Rattle.chars.specs.Pick.{pick}
use lib.ListN.{length}
use native.Mathlib.Nat.{add-zero}
use native.Mathlib.Omega.{arith}
use mathlib.Core.List.{[], ◌∷◌}
use mathlib.Core.Bool.{true}
use mathlib.Core.Path.{◌≡◌, refl, sym, ap, ◌∙◌}
use borrow.Author.Rules.{rules}
use Rattle.chunks.proofs.put_one.Goals as goal
use Rattle.chunks.proofs.put_one.Goals.{Else-is_break, Else-white, Then-is_break, Then-white}

-- what is put out, and the flag, in each case
flagged : (c : Then-is_break) → is_whitespace c.args.code ≡ true
flagged c = break-white _ (sym c.is_break.ensures ∙ c.if-is_break.true)

dropped : (c : Then-white) → let a = c.args in one_out a.white a.code ≡ []
unfolding one_out pick
dropped c = simp (← c.is_break.ensures, c.if-is_break.true, c.if-white.true)

spaced : (c : Else-white) → let a = c.args in one_out a.white a.code ≡ 32 ∷ []
unfolding one_out pick
spaced c = simp (← c.is_break.ensures, c.if-is_break.true, c.if-white.false)

plain : (c : Else-is_break) → let a = c.args in one_out a.white a.code ≡ encode a.code
unfolding one_out pick
plain c = simp (← c.is_break.ensures, c.if-is_break.false)

pub returns-then-white : goal.returns-then-white
returns-then-white c = rw (dropped (goal.at.returns-then-white c).Then-white) (sym (add-zero _), sym (flagged (goal.at.returns-then-white c).Then-is_break), refl)

pub put_char-m-requires : goal.put_char-m-requires
unfolding encode pick
put_char-m-requires c = (omega arith, omega (arith, ap length (spaced (goal.at.put_char-m-requires c).Else-white)))

pub returns-then-is_break : goal.returns-then-is_break
unfolding encode pick
returns-then-is_break c = let e = c.put_char-m.ensures in rw (spaced (goal.at.returns-then-is_break c).Else-white) (e.0, sym (flagged (goal.at.returns-then-is_break c).Then-is_break), e.1)

pub put_char-m-requires-2 : goal.put_char-m-requires-2
put_char-m-requires-2 c = (c.requires.0, omega (arith, ap length (plain (goal.at.put_char-m-requires-2 c).Else-is_break)))

pub returns : goal.returns
returns c = let e = c.put_char-m-2.ensures in rw (plain (goal.at.returns c).Else-is_break) (e.0, c.is_whitespace-w.ensures, e.1)
