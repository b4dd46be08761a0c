-- Digits that are written are read back: the two definitions, of a line of digits that comes and of one that goes, belong together.
-- Assumes nothing.
use mathlib.Core.Path.{◌≡◌, refl, ap}
use mathlib.Core.Bool.{Bool, true, false}
use mathlib.Core.List.{List, [], ◌∷◌}
use Prim.Native.Nat.{ℕ, ◌+◌, ◌*◌, ◌/◌, ◌%◌, ◌<◌}
use native.Mathlib.Omega.{arith}
use lib.Dec.{T}
use Rattle.chars.specs.Pick.{pick}
use Rattle.chars.proofs.Below.{at, agree}
use Rattle.hexes.specs.Hex.{is_digit, digit_of, all_digits, bytes_of}
use Rattle.answers.specs.Answer.{glyph, hex_text}
use Rattle.frames.specs.Answers.{AllBytes}

glyph-back : (d : ℕ) → d < 16 → digit_of (glyph d) ≡ d
unfolding digit_of glyph pick
glyph-back d h = agree (λ (d : ℕ). digit_of (glyph d)) (λ (d : ℕ). d) 16 tt d h

holds : (t : Bool) → T t → t ≡ true
holds true h = refl
holds false h = absurd h

glyph-digit : (d : ℕ) → d < 16 → is_digit (glyph d) ≡ true
unfolding is_digit glyph pick
glyph-digit d h = holds (is_digit (glyph d)) (at (λ (d : ℕ). is_digit (glyph d)) 16 tt d h)

-- the digits of bytes are digits,
pub digits-written : (l : List ℕ) → AllBytes l → all_digits (hex_text l) ≡ true
unfolding hex_text all_digits
digits-written [] h = refl
digits-written (b ∷ l) h =
    let p = h.0 in
    rw (glyph-digit (b / 16) (omega arith), glyph-digit (b % 16) (omega arith)) (digits-written l h.1)

-- and stand for them
pub bytes_back : (l : List ℕ) → AllBytes l → bytes_of (hex_text l) ≡ l
unfolding hex_text
bytes_back [] h = refl
bytes_back (b ∷ l) h =
    let p = h.0 in
    let e : b / 16 * 16 + b % 16 ≡ b = omega arith in
    rw (glyph-back (b / 16) (omega arith), glyph-back (b % 16) (omega arith), e) (ap (λ (t : List ℕ). b ∷ t) (bytes_back l h.1))
