-- A whole text as a number, as Rust's `str::parse` reads it for a type of unsigned numbers.
use Prim.Native.Char.{code}
use Rattle.std.specs.Prelude.{ℕ, ◌+◌, ◌*◌, ◌^◌, ◌≡◌, true, List, [], ◌∷◌, ltb, leb, eqb, length, get_or, drop, Option, Some, None}
use Rattle.chars.specs.Ascii.{digit_of}
use Rattle.chars.specs.Classes.{is_ascii_digit}
use Rattle.chars.specs.Pick.{pick}

-- the decimal number that ASCII digits say, behind those read so far; none if another byte stands there, or the number is above top
unfoldable pub whole_value : ℕ → ℕ → List ℕ → Option ℕ
whole_value top acc [] = Some acc
whole_value top acc (b ∷ t) =
    pick (ltb 9 (digit_of b)) None (pick (ltb top (acc * 10 + digit_of b)) None (whole_value top (acc * 10 + digit_of b) t))

-- the number that the text from a place on is: at least one digit
unfoldable pub digits_from : ℕ → List ℕ → ℕ → Option ℕ
digits_from top s at = pick (leb (length s) at) None (whole_value top 0 (drop at s))

-- a plus or none, then digits to the end
unfoldable pub parse : ℕ → List ℕ → Option ℕ
parse top s = pick (eqb (get_or s 0 0) (code "+")) (digits_from top s 1) (digits_from top s 0)

-- ASCII digits alone
abbrev pub AllDigits : List ℕ → Type 0
AllDigits [] = Unit {0}
AllDigits (b ∷ t) = (is_ascii_digit b ≡ true) × AllDigits t

-- the number that decimal digits denote: each one times the power of ten that its place says
unfoldable pub decimal_value : List ℕ → ℕ
decimal_value [] = 0
decimal_value (b ∷ t) = digit_of b * 10 ^ length t + decimal_value t

-- a text spells a number: a plus or none, then one digit or more
pub data Spells : List ℕ → ℕ → Type 0 where
  digits : {b : ℕ} {t : List ℕ} → AllDigits (b ∷ t) → Spells (b ∷ t) (decimal_value (b ∷ t))
  with_plus : {b : ℕ} {t : List ℕ} → AllDigits (b ∷ t) → Spells (code "+" ∷ b ∷ t) (decimal_value (b ∷ t))
