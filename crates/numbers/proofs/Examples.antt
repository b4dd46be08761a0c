-- Numbers and trimmed texts: each admitted length and those beside it, signs, white space, what panics, and the largest number.
-- Assumes nothing.
use mathlib.Core.Path.{◌≡◌, refl}
use mathlib.Core.List.{List, [], ◌∷◌, ◌++◌, map}
use Prim.Native.Nat.{ℕ}
use lib.IntN.{pos, negsuc}
use Rattle.chars.specs.Ascii.{ascii, digit_of}
use Rattle.chars.specs.Pick.{pick}
use Rattle.chars.specs.Signs.{signed}
use Rattle.chars.specs.Classes.{within, is_whitespace, is_ascii_digit, is_numeric}
use Rattle.chars.specs.Utf8.{len_of, is_cont, is_surrogate, decode2, decode3, decode, first, decode_at}
use Rattle.scanner.specs.Class.{in_class}
use Rattle.scanner.specs.Scan.{len_in, match_len, walk, eat_while, eat_if, stands_at, part, run_at as scanned_at, next_run}
use Rattle.numbers.specs.declared.Digits.{Digits}
use Rattle.numbers.specs.declared.Digits.TheVariants.{OneOrTwo, Two, Four}
use Rattle.numbers.specs.declared.NoNumber.{NoNumber}
use Rattle.numbers.specs.declared.NoNumber.TheVariants.{Panics, Wrong}
use Rattle.scanner.specs.declared.Cursor.{Cursor}
use Rattle.std.specs.Prelude.{Option, Some, None, Result, Ok, Err, ℤ}
use Rattle.numbers.specs.Number.{admits, run_value, run_of, run_at, parse_unsigned_int, or_kept, behind_sign, with_sign, signed_at, signed_run, int_of, parse_int}
use Rattle.numbers.specs.Parse.{whole_value, digits_from, parse}
use Rattle.numbers.specs.Trim.{step_by, step_over, trim_step, trim_from, trim_end, trim}

-- a text, a place, the lengths that are admitted, and what is read there
pub record RunExample : Type 0 where
  pub text : List ℕ
  pub at : ℕ
  pub digits : Digits
  pub says : Result (ℕ × Cursor) NoNumber

abbrev pub runs : List RunExample
runs =
    record { text = ascii "7"; at = 0; digits = OneOrTwo; says = Ok (7, record { 0 = 1 }) }
    ∷ record { text = ascii "07"; at = 0; digits = OneOrTwo; says = Ok (7, record { 0 = 2 }) }
    ∷ record { text = ascii "99-"; at = 0; digits = OneOrTwo; says = Ok (99, record { 0 = 2 }) }
    ∷ record { text = ascii "007"; at = 0; digits = OneOrTwo; says = Err (Wrong (record { 0 = 3 })) }
    ∷ record { text = ascii "-"; at = 0; digits = OneOrTwo; says = Err (Wrong (record { 0 = 0 })) }
    ∷ record { text = []; at = 0; digits = OneOrTwo; says = Err (Wrong (record { 0 = 0 })) }
    ∷ record { text = ascii "7"; at = 0; digits = Two; says = Err (Wrong (record { 0 = 1 })) }
    ∷ record { text = ascii "12"; at = 0; digits = Two; says = Ok (12, record { 0 = 2 }) }
    ∷ record { text = ascii "123"; at = 0; digits = Two; says = Err (Wrong (record { 0 = 3 })) }
    ∷ record { text = ascii "999"; at = 0; digits = Four; says = Err (Wrong (record { 0 = 3 })) }
    ∷ record { text = ascii "0000"; at = 0; digits = Four; says = Ok (0, record { 0 = 4 }) }
    ∷ record { text = ascii "9999"; at = 0; digits = Four; says = Ok (9999, record { 0 = 4 }) }
    ∷ record { text = ascii "10000"; at = 0; digits = Four; says = Err (Wrong (record { 0 = 5 })) }
    -- white space before it, and the place behind it
    ∷ record { text = ascii "x  12 "; at = 1; digits = Two; says = Ok (12, record { 0 = 5 }) }
    ∷ record { text = 0xC2 ∷ 0xA0 ∷ ascii "12"; at = 0; digits = Two; says = Ok (12, record { 0 = 4 }) }
    -- the length is counted in bytes and decides before the characters do: ½ has two
    ∷ record { text = 0xC2 ∷ 0xBD ∷ []; at = 0; digits = Two; says = (Err Panics) }
    ∷ record { text = ascii "1" ++ (0xC2 ∷ 0xBD ∷ []); at = 0; digits = OneOrTwo; says = Err (Wrong (record { 0 = 3 })) }
    ∷ record { text = ascii "12" ++ (0xC2 ∷ 0xBD ∷ []); at = 0; digits = Four; says = (Err Panics) }
    ∷ []

pub run-examples : map (λ (e : RunExample). parse_unsigned_int e.text e.at e.digits) runs ≡ map (λ (e : RunExample). e.says) runs
unfolding parse_unsigned_int run_at run_of run_value admits digits_from whole_value digit_of part eat_while walk match_len len_in decode_at first decode len_of is_cont decode2 in_class within is_whitespace is_ascii_digit is_numeric pick
run-examples = refl

-- the same with a sign
pub record IntExample : Type 0 where
  pub text : List ℕ
  pub at : ℕ
  pub digits : Digits
  pub says : Result (ℤ × Cursor) NoNumber

abbrev pub ints : List IntExample
ints =
    record { text = ascii "2020"; at = 0; digits = Four; says = Ok (pos 2020, record { 0 = 4 }) }
    ∷ record { text = ascii "+2020"; at = 0; digits = Four; says = Ok (pos 2020, record { 0 = 5 }) }
    ∷ record { text = ascii "-2020"; at = 0; digits = Four; says = Ok (negsuc 2019, record { 0 = 5 }) }
    ∷ record { text = ascii "-12"; at = 0; digits = Two; says = Ok (negsuc 11, record { 0 = 3 }) }
    ∷ record { text = ascii "-0000"; at = 0; digits = Four; says = Ok (pos 0, record { 0 = 5 }) }
    ∷ record { text = ascii "-9999"; at = 0; digits = Four; says = Ok (negsuc 9998, record { 0 = 5 }) }
    -- white space before the sign and behind it, and one sign alone
    ∷ record { text = ascii "  - 2020"; at = 0; digits = Four; says = Ok (negsuc 2019, record { 0 = 8 }) }
    ∷ record { text = ascii "--2020"; at = 0; digits = Four; says = Err (Wrong (record { 0 = 1 })) }
    ∷ record { text = ascii "-+2020"; at = 0; digits = Four; says = Err (Wrong (record { 0 = 1 })) }
    -- another length, and what panics
    ∷ record { text = ascii "-20"; at = 0; digits = Four; says = Err (Wrong (record { 0 = 3 })) }
    ∷ record { text = ascii "-"; at = 0; digits = Four; says = Err (Wrong (record { 0 = 1 })) }
    ∷ record { text = ascii "-" ++ (0xC2 ∷ 0xBD ∷ []); at = 0; digits = Two; says = (Err Panics) }
    ∷ []

pub int-examples : map (λ (e : IntExample). parse_int e.text e.at e.digits) ints ≡ map (λ (e : IntExample). e.says) ints
unfolding parse_int int_of signed_run signed_at next_run scanned_at with_sign signed behind_sign or_kept eat_if stands_at run_of run_value admits digits_from whole_value digit_of part eat_while walk match_len len_in decode_at first decode len_of is_cont decode2 in_class within is_whitespace is_ascii_digit is_numeric pick
int-examples = refl

-- a whole text, the largest number, and what is read
pub record WholeExample : Type 0 where
  pub text : List ℕ
  pub top : ℕ
  pub says : Option ℕ

abbrev pub wholes : List WholeExample
wholes =
    record { text = ascii "0"; top = 255; says = Some 0 }
    ∷ record { text = ascii "254"; top = 255; says = Some 254 }
    ∷ record { text = ascii "255"; top = 255; says = Some 255 }
    ∷ record { text = ascii "256"; top = 255; says = None }
    ∷ record { text = ascii "2550"; top = 255; says = None }
    ∷ record { text = ascii "000255"; top = 255; says = Some 255 }
    ∷ record { text = ascii "4294967295"; top = 4294967295; says = Some 4294967295 }
    ∷ record { text = ascii "4294967296"; top = 4294967295; says = None }
    -- a plus, once, and no minus
    ∷ record { text = ascii "+7"; top = 255; says = Some 7 }
    ∷ record { text = ascii "++7"; top = 255; says = None }
    ∷ record { text = ascii "-7"; top = 255; says = None }
    ∷ record { text = ascii "-0"; top = 255; says = None }
    -- one digit at least, and nothing else
    ∷ record { text = []; top = 255; says = None }
    ∷ record { text = ascii "+"; top = 255; says = None }
    ∷ record { text = ascii " 7"; top = 255; says = None }
    ∷ record { text = ascii "7 "; top = 255; says = None }
    ∷ record { text = ascii "7/"; top = 255; says = None }
    ∷ record { text = ascii "7:"; top = 255; says = None }
    ∷ record { text = 0xC2 ∷ 0xBD ∷ []; top = 255; says = None }
    ∷ []

pub whole-examples : map (λ (e : WholeExample). parse e.top e.text) wholes ≡ map (λ (e : WholeExample). e.says) wholes
unfolding parse digits_from whole_value digit_of pick
whole-examples = refl

-- a text, the place behind its last character that is no white space, and the text trimmed
pub record TrimExample : Type 0 where
  pub text : List ℕ
  pub end : ℕ
  pub left : List ℕ

abbrev pub trims : List TrimExample
trims =
    record { text = ascii "4"; end = 1; left = ascii "4" }
    ∷ record { text = ascii " 4 "; end = 2; left = ascii "4" }
    ∷ record { text = ascii "  4 5  "; end = 5; left = ascii "4 5" }
    ∷ record { text = ascii "   "; end = 0; left = [] }
    ∷ record { text = []; end = 0; left = [] }
    -- white space beyond ASCII, and a character of two bytes at the end
    ∷ record { text = 0xC2 ∷ 0xA0 ∷ 0xE2 ∷ 0x80 ∷ 0x89 ∷ 0xC3 ∷ 0xA9 ∷ 0xC2 ∷ 0x85 ∷ []; end = 7; left = 0xC3 ∷ 0xA9 ∷ [] }
    -- what is no character ends the text
    ∷ record { text = ascii " 4 " ++ (0xFF ∷ ascii "5"); end = 2; left = ascii "4" }
    ∷ []

pub end-examples : map (λ (e : TrimExample). trim_end e.text) trims ≡ map (λ (e : TrimExample). e.end) trims
unfolding trim_end trim_from trim_step step_over step_by eat_while walk match_len len_in decode_at first decode len_of is_cont is_surrogate decode2 decode3 in_class within is_whitespace pick
end-examples = refl

pub trim-examples : map (λ (e : TrimExample). trim e.text) trims ≡ map (λ (e : TrimExample). e.left) trims
unfolding trim part trim_end trim_from trim_step step_over step_by eat_while walk match_len len_in decode_at first decode len_of is_cont is_surrogate decode2 decode3 in_class within is_whitespace pick
trim-examples = refl
