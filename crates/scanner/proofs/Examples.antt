-- What the scanner finds at places of short texts: each class, by characters of it and beside it, and each function at the text's ends.
-- Assumes nothing.
use mathlib.Core.Path.{◌≡◌, refl}
use mathlib.Core.Bool.{Bool, true, false}
use mathlib.Core.List.{List, [], ◌∷◌, ◌++◌, map}
use Prim.Native.Nat.{ℕ}
use Prim.Native.Char.{code}
use Rattle.chars.specs.Ascii.{ascii}
use Rattle.chars.specs.Pick.{pick}
use Rattle.chars.specs.Classes.{within, is_whitespace, is_ascii_digit, is_numeric, is_ascii_alphabetic, is_alphabetic, is_alphanumeric}
use Rattle.chars.specs.Utf8.{len_of, is_cont, is_surrogate, decode2, decode3, decode4, decode, first, decode_at}
use Rattle.scanner.specs.declared.Class.{Class}
use Rattle.scanner.specs.declared.Class.TheVariants.{Whitespace, PlainWhitespace, Numeric, AsciiDigit, AsciiAlphabetic, Alphanumeric, Sign, Separator, Is}
use Rattle.scanner.specs.declared.Cursor.{Cursor}
use Rattle.std.specs.Prelude.{Option, Some, None}
use Rattle.scanner.specs.Class.{in_class}
use Rattle.scanner.specs.Scan.{len_in, match_len, walk, eat_while, eat_if, begins, eat_text, eaten, eat_at, stands_at, done_at, part, run_at, next_run}

-- a character, and whether it is of a class
pub record ClassExample : Type 0 where
  pub class : Class
  pub char : ℕ
  pub says : Bool

abbrev pub classes : List ClassExample
classes =
    record { class = Whitespace; char = code " "; says = true }
    ∷ record { class = Whitespace; char = 0x08; says = false }
    ∷ record { class = Whitespace; char = 0x09; says = true }
    ∷ record { class = Whitespace; char = 0x0D; says = true }
    ∷ record { class = Whitespace; char = 0x0E; says = false }
    ∷ record { class = Whitespace; char = 0x85; says = true }
    ∷ record { class = Whitespace; char = 0xA0; says = true }
    ∷ record { class = Whitespace; char = 0x2000; says = true }
    ∷ record { class = Whitespace; char = 0x200A; says = true }
    ∷ record { class = Whitespace; char = 0x200B; says = false }
    ∷ record { class = PlainWhitespace; char = code " "; says = true }
    ∷ record { class = PlainWhitespace; char = 0x85; says = true }
    ∷ record { class = PlainWhitespace; char = 0xA0; says = false }
    ∷ record { class = PlainWhitespace; char = code "a"; says = false }
    ∷ record { class = Numeric; char = code "0"; says = true }
    ∷ record { class = Numeric; char = code "9"; says = true }
    ∷ record { class = Numeric; char = 0xBD; says = true }
    ∷ record { class = Numeric; char = code "a"; says = false }
    ∷ record { class = AsciiDigit; char = code "/"; says = false }
    ∷ record { class = AsciiDigit; char = code "0"; says = true }
    ∷ record { class = AsciiDigit; char = code "9"; says = true }
    ∷ record { class = AsciiDigit; char = code ":"; says = false }
    ∷ record { class = AsciiDigit; char = 0xBD; says = false }
    ∷ record { class = AsciiAlphabetic; char = code "A"; says = true }
    ∷ record { class = AsciiAlphabetic; char = code "z"; says = true }
    ∷ record { class = AsciiAlphabetic; char = code "1"; says = false }
    ∷ record { class = AsciiAlphabetic; char = 0xE9; says = false }
    ∷ record { class = Alphanumeric; char = 0xE9; says = true }
    ∷ record { class = Alphanumeric; char = 0xBD; says = true }
    ∷ record { class = Alphanumeric; char = code "-"; says = false }
    ∷ record { class = Sign; char = code "+"; says = true }
    ∷ record { class = Sign; char = code "-"; says = true }
    ∷ record { class = Sign; char = code ","; says = false }
    ∷ record { class = Separator; char = code "-"; says = true }
    ∷ record { class = Separator; char = 0xA0; says = true }
    ∷ record { class = Separator; char = code "+"; says = false }
    ∷ record { class = Separator; char = code " "; says = false }
    ∷ record { class = Is 0x58; char = code "X"; says = true }
    ∷ record { class = Is 0x58; char = code "x"; says = false }
    ∷ []

pub class-examples : map (λ (e : ClassExample). in_class e.class e.char) classes ≡ map (λ (e : ClassExample). e.says) classes
unfolding in_class within is_whitespace is_ascii_digit is_numeric is_ascii_alphabetic is_alphabetic is_alphanumeric
class-examples = refl

-- a text, a class and a place: whether a character of the class stands there, what eating one does, and where eating all of them ends
pub record EatExample : Type 0 where
  pub text : List ℕ
  pub class : Class
  pub at : ℕ
  pub stands : Bool
  pub one : Option Cursor
  pub all : ℕ

abbrev pub eats : List EatExample
eats =
    record { text = ascii "2020-01"; class = AsciiDigit; at = 0; stands = true; one = Some (record { 0 = 1 }); all = 4 }
    ∷ record { text = ascii "2020-01"; class = AsciiDigit; at = 4; stands = false; one = None; all = 4 }
    ∷ record { text = ascii "2020-01"; class = AsciiDigit; at = 5; stands = true; one = Some (record { 0 = 6 }); all = 7 }
    -- a character of several bytes is eaten whole: ½, a no-break space, an en space
    ∷ record { text = ascii "1" ++ (0xC2 ∷ 0xBD ∷ ascii "2x"); class = Numeric; at = 0; stands = true; one = Some (record { 0 = 1 }); all = 4 }
    ∷ record { text = ascii "1" ++ (0xC2 ∷ 0xBD ∷ ascii "2x"); class = Numeric; at = 1; stands = true; one = Some (record { 0 = 3 }); all = 4 }
    ∷ record { text = 0xC2 ∷ 0xA0 ∷ 0xE2 ∷ 0x80 ∷ 0x82 ∷ ascii "x"; class = Whitespace; at = 0; stands = true; one = Some (record { 0 = 2 }); all = 5 }
    ∷ record { text = 0xC2 ∷ 0xA0 ∷ 0xE2 ∷ 0x80 ∷ 0x82 ∷ ascii "x"; class = Whitespace; at = 2; stands = true; one = Some (record { 0 = 5 }); all = 5 }
    -- within a character there is none, nor where a sequence is ill-formed
    ∷ record { text = 0xC2 ∷ 0xA0 ∷ ascii " "; class = Whitespace; at = 1; stands = false; one = None; all = 1 }
    ∷ record { text = ascii " " ++ (0xFF ∷ ascii " "); class = Whitespace; at = 0; stands = true; one = Some (record { 0 = 1 }); all = 1 }
    -- at the end and past it there is nothing
    ∷ record { text = ascii "-"; class = Sign; at = 1; stands = false; one = None; all = 1 }
    ∷ record { text = ascii "-"; class = Sign; at = 9; stands = false; one = None; all = 9 }
    ∷ record { text = []; class = Whitespace; at = 0; stands = false; one = None; all = 0 }
    ∷ []

pub stand-examples : map (λ (e : EatExample). stands_at e.class e.text e.at) eats ≡ map (λ (e : EatExample). e.stands) eats
unfolding stands_at match_len len_in decode_at first decode len_of is_cont is_surrogate decode2 decode3 in_class within is_whitespace is_ascii_digit is_numeric pick
stand-examples = refl

pub one-examples : map (λ (e : EatExample). eat_if e.class e.text e.at) eats ≡ map (λ (e : EatExample). e.one) eats
unfolding eat_if match_len len_in decode_at first decode len_of is_cont is_surrogate decode2 decode3 in_class within is_whitespace is_ascii_digit is_numeric pick
one-examples = refl

pub all-examples : map (λ (e : EatExample). eat_while e.class e.text e.at) eats ≡ map (λ (e : EatExample). e.all) eats
unfolding eat_while walk match_len len_in decode_at first decode len_of is_cont is_surrogate decode2 decode3 in_class within is_whitespace is_ascii_digit is_numeric pick
all-examples = refl

-- a text and a place: the character there, and whether the text is over
pub record NextExample : Type 0 where
  pub text : List ℕ
  pub at : ℕ
  pub next : Option (ℕ × Cursor)
  pub over : Bool

abbrev pub nexts : List NextExample
nexts =
    record { text = ascii "Z"; at = 0; next = Some (code "Z", record { 0 = 1 }); over = false }
    ∷ record { text = ascii "Z"; at = 1; next = None; over = true }
    ∷ record { text = ascii "Z"; at = 2; next = None; over = true }
    ∷ record { text = 0xC3 ∷ 0xA9 ∷ []; at = 0; next = Some (0xE9, record { 0 = 2 }); over = false }
    ∷ record { text = 0xC3 ∷ 0xA9 ∷ []; at = 1; next = None; over = false }
    ∷ record { text = 0xF0 ∷ 0x9F ∷ 0x98 ∷ 0x80 ∷ []; at = 0; next = Some (0x1F600, record { 0 = 4 }); over = false }
    ∷ []

pub next-examples : map (λ (e : NextExample). eat_at e.text e.at) nexts ≡ map (λ (e : NextExample). e.next) nexts
unfolding eat_at eaten decode_at first decode len_of is_cont decode2 decode4 pick
next-examples = refl

pub over-examples : map (λ (e : NextExample). done_at e.text e.at) nexts ≡ map (λ (e : NextExample). e.over) nexts
unfolding done_at
over-examples = refl

-- a text, another and a place: whether the second is eaten there
pub record TextExample : Type 0 where
  pub text : List ℕ
  pub other : List ℕ
  pub at : ℕ
  pub says : Option Cursor

abbrev pub eaten_texts : List TextExample
eaten_texts =
    record { text = ascii "5 BCE"; other = ascii "BC"; at = 2; says = Some (record { 0 = 4 }) }
    ∷ record { text = ascii "5 BCE"; other = ascii "AD"; at = 2; says = None }
    ∷ record { text = ascii "5 BCE"; other = ascii "BC"; at = 1; says = None }
    ∷ record { text = ascii "5 B"; other = ascii "BC"; at = 2; says = None }
    ∷ record { text = ascii "BC"; other = ascii "BC"; at = 0; says = Some (record { 0 = 2 }) }
    ∷ record { text = ascii "BC"; other = []; at = 2; says = Some (record { 0 = 2 }) }
    ∷ record { text = ascii "BC"; other = []; at = 3; says = None }
    ∷ []

pub text-examples : map (λ (e : TextExample). eat_text e.other e.text e.at) eaten_texts ≡ map (λ (e : TextExample). e.says) eaten_texts
unfolding eat_text begins pick
text-examples = refl

-- the part from a place to another
pub part-inside : part (ascii "2020-01") 5 7 ≡ ascii "01"
unfolding part
part-inside = refl

pub part-longer : part (ascii "2020-01") 5 99 ≡ ascii "01"
unfolding part
part-longer = refl

pub part-backwards : part (ascii "2020-01") 5 4 ≡ []
unfolding part
part-backwards = refl

-- a run at a place, and one behind white space
pub run-there : run_at AsciiDigit (ascii " 12 ") 0 ≡ record { start = record { 0 = 0 }; end = record { 0 = 0 } }
unfolding run_at eat_while walk match_len len_in decode_at first decode len_of in_class within is_ascii_digit pick
run-there = refl

pub run-behind : next_run AsciiDigit (ascii " 12 ") 0 ≡ record { start = record { 0 = 1 }; end = record { 0 = 3 } }
unfolding next_run run_at eat_while walk match_len len_in decode_at first decode len_of in_class within is_whitespace is_ascii_digit pick
run-behind = refl
