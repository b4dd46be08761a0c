-- The year field: a sign, one to four digits, and an era.
use Prim.Native.Char.{code}
use Rattle.std.specs.Prelude.{ℕ, Bool, true, false, List, ltb, eqb, ℤ, pos, neg_ℤ, ◌-ℤ◌, length, Option, Some, None, Result, Ok, Err}
use Rattle.chars.specs.Pick.{pick}
use Rattle.scanner.specs.declared.Class.TheVariants.{Whitespace, AsciiDigit, Alphanumeric, Is}
use Rattle.refusals.specs.declared.TextRefusal.{TextRefusal}
use Rattle.scanner.specs.declared.Cursor.{Cursor}
use Rattle.scanner.specs.Scan.{eat_while, eat_if, eat_text, stands_at, done_at, part}
use Rattle.refusals.specs.declared.Kind.TheVariants.{WrongNumberOfDigits, InvalidFormat, YearZeroCE}
use Rattle.refusals.specs.Offset.{text_refusal, panics}
use Rattle.numbers.specs.Parse.{parse}
use Rattle.fields.specs.declared.Sign.{Sign}
use Rattle.fields.specs.declared.Sign.TheVariants.{Minus, Plus}
use Rattle.chars.specs.Ascii.{ascii}

-- a plus or a minus stands before the year
abbrev pub has_sign : Option Sign → Bool
has_sign None = false
has_sign (Some Plus) = true
has_sign (Some Minus) = true

-- a number behind its sign: it is the year, whatever its number of digits
abbrev pub signed_by : Option Sign → ℕ → ℤ
signed_by None n = pos n
signed_by (Some Plus) n = pos n
signed_by (Some Minus) n = neg_ℤ (pos n)

-- n BC is 1 - n
abbrev pub before_christ : ℕ → ℤ
before_christ n = pos 1 -ℤ pos n

-- on behind what was eaten, or where nothing was
unfoldable pub on_past : {A : Type 0} → Option Cursor → (ℕ → A) → A → A
on_past (Some c) go else = go c.0
on_past None go else = else

-- an era from a place to another, AD or not: a letter or a digit behind it is refused, at the era alone
unfoldable pub era_end : List ℕ → ℕ → Bool → ℕ → Result (Option Bool × Cursor) TextRefusal
era_end s start positive end =
    pick (stands_at Alphanumeric s end) (Err (text_refusal InvalidFormat start end)) (Ok (Some positive, record { 0 = end }))

-- BC or BCE at a place, or no era
unfoldable pub negative_era : List ℕ → ℕ → Result (Option Bool × Cursor) TextRefusal
negative_era s start =
    on_past (eat_text (ascii "BC") s start)
    (λ c. on_past (eat_text (ascii "E") s c) (era_end s start false) (era_end s start false c))
    (Ok (None, record { 0 = start }))

-- AD, CE, BC or BCE at a place, or no era
unfoldable pub era_at : List ℕ → ℕ → Result (Option Bool × Cursor) TextRefusal
era_at s start =
    on_past (eat_text (ascii "AD") s start) (era_end s start true)
    (on_past (eat_text (ascii "CE") s start) (era_end s start true) (negative_era s start))

-- white space, then an era or none
unfoldable pub parse_era_marker : List ℕ → ℕ → Result (Option Bool × Cursor) TextRefusal
parse_era_marker s at = era_at s (eat_while Whitespace s at)

-- a year that nothing may follow
unfoldable pub ended : List ℕ → ℕ → ℕ → ℤ → Result ℤ TextRefusal
ended s idx at year = pick (done_at s at) (Ok year) (Err (text_refusal InvalidFormat idx at))

-- with an era: a sign is refused first, then a zero; behind AD nothing may follow, behind BC nothing more is read.
-- With no era nothing may follow the digits
unfoldable pub with_era : List ℕ → ℕ → Option Sign → ℕ → Result (Option Bool × Cursor) TextRefusal → Result ℤ TextRefusal
with_era s idx sign n (Ok (Some positive, c)) =
    pick (has_sign sign) (Err (text_refusal InvalidFormat idx c.0))
    (pick (eqb n 0) (Err (text_refusal YearZeroCE idx c.0))
    (pick positive (ended s idx c.0 (pos n)) (Ok (before_christ n))))
with_era s idx sign n (Ok (None, c)) = ended s idx c.0 (signed_by sign n)
with_era s idx sign n (Err e) = Err e

-- behind the digits an era may stand, and decides what the digits mean
unfoldable pub behind_digits : List ℕ → ℕ → ℕ → Option Sign → ℕ → Result ℤ TextRefusal
behind_digits s idx at sign n = with_era s idx sign n (parse_era_marker s at)

-- with the number that digits are on; digits that are none panic
unfoldable pub on_number : Option ℕ → (ℕ → Result ℤ TextRefusal) → Result ℤ TextRefusal
on_number (Some n) go = go n
on_number None go = Err panics

-- the digits from a place to another, the sign ending at `at`: none and more than four are refused; then white space behind the sign panics
unfoldable pub year_digits : List ℕ → ℕ → ℕ → Option Sign → ℕ → ℕ → Result ℤ TextRefusal
year_digits s idx at sign start end =
    pick (eqb (length (part s start end)) 0) (Err (text_refusal InvalidFormat idx end))
    (pick (ltb 4 (length (part s start end))) (Err (text_refusal WrongNumberOfDigits idx end))
    (pick (eqb start at) (on_number (parse 9999 (part s start end)) (behind_digits s idx end sign)) (Err panics)))

-- the digits at a place
unfoldable pub year_from : List ℕ → ℕ → ℕ → Option Sign → ℕ → Result ℤ TextRefusal
year_from s idx at sign start = year_digits s idx at sign start (eat_while AsciiDigit s start)

-- behind the sign: white space, then digits
unfoldable pub behind_sign : List ℕ → ℕ → ℕ → Option Sign → Result ℤ TextRefusal
behind_sign s idx at sign = year_from s idx at sign (eat_while Whitespace s at)

-- a sign or none at a place, and what follows it
unfoldable pub year_at : List ℕ → ℕ → Result ℤ TextRefusal
year_at s idx =
    on_past (eat_if (Is (code "-")) s idx) (λ c. behind_sign s idx c (Some Minus))
    (on_past (eat_if (Is (code "+")) s idx) (λ c. behind_sign s idx c (Some Plus)) (behind_sign s idx idx None))

-- the year of a year field: not windowed, 49 is 49. A refused year's place starts behind the white space at the front
unfoldable pub get_year : List ℕ → Result ℤ TextRefusal
get_year s = year_at s (eat_while Whitespace s 0)
