-- Numbers, marks and answers, some of each. Assumes nothing.
use mathlib.Core.Path.{◌≡◌, refl}
use mathlib.Core.Bool.{true, false}
use mathlib.Core.List.{List, [], ◌∷◌, map}
use Prim.Native.Nat.{ℕ}
use Prim.Native.String.{String}
use Rattle.chars.specs.Ascii.{ascii}
use Rattle.chars.specs.Pick.{pick}
use Rattle.refusals.specs.declared.Kind.TheVariants.{RustPanics, NoRoom}
use Rattle.refusals.specs.Refusal.{file_span, refusal}
use Rattle.std.specs.Prelude.{Ok, Err}
use Rattle.puts.specs.Numbers.{digits, count, digit_count, width, decimal}
use Rattle.puts.specs.Marks.{mark_text}
use Rattle.puts.specs.Answers.{measured, decided, answer, left, afterwards}

-- a number, with how many digits at least, and what is written
pub record Example : Type 0 where
  pub least : ℕ
  pub of : ℕ
  pub text : String

abbrev pub numbers : List Example
numbers =
    record { least = 0; of = 0; text = "" }
    ∷ record { least = 1; of = 0; text = "0" }
    ∷ record { least = 2; of = 0; text = "00" }
    ∷ record { least = 4; of = 0; text = "0000" }
    ∷ record { least = 1; of = 9; text = "9" }
    ∷ record { least = 1; of = 10; text = "10" }
    ∷ record { least = 2; of = 7; text = "07" }
    ∷ record { least = 2; of = 99; text = "99" }
    ∷ record { least = 2; of = 100; text = "100" }
    ∷ record { least = 4; of = 5; text = "0005" }
    ∷ record { least = 4; of = 999; text = "0999" }
    ∷ record { least = 4; of = 1000; text = "1000" }
    ∷ record { least = 4; of = 9999; text = "9999" }
    ∷ record { least = 4; of = 10000; text = "10000" }
    ∷ record { least = 1; of = 4294967295; text = "4294967295" }
    ∷ []

pub all_numbers : map (λ (e : Example). decimal e.least e.of) numbers ≡ map (λ (e : Example). ascii e.text) numbers
unfolding decimal width digit_count count pick
all_numbers = refl

-- the last digits of a number, the others left out
pub last_digits : digits 0 5 ∷ digits 2 7 ∷ digits 2 123 ∷ [] ≡ ascii "" ∷ ascii "07" ∷ ascii "23" ∷ []
last_digits = refl

-- the marks
pub all-marks : mark_text false false ∷ mark_text true false ∷ mark_text false true ∷ mark_text true true ∷ [] ≡ ascii "" ∷ ascii "?" ∷ ascii "~" ∷ ascii "%" ∷ []
unfolding mark_text
all-marks = refl

-- RustPanics comes before NoRoom, and a text that just fits is written
pub all-answers : answer true (ascii "abc") 0 ∷ answer true (ascii "abc") 3 ∷ answer false (ascii "abc") 2 ∷ answer false (ascii "abc") 3 ∷ answer false (ascii "abc") 4 ∷ answer false [] 0 ∷ []
    ≡ Err (record { kind = RustPanics; place = file_span 0 0 }) ∷ Err (record { kind = RustPanics; place = file_span 0 0 }) ∷ Err (record { kind = NoRoom; place = file_span 0 0 }) ∷ Ok 3 ∷ Ok 3 ∷ Ok 0 ∷ []
unfolding answer decided measured refusal pick
all-answers = refl

-- the length is there, or is not
pub all-measures : measured false (ascii "abc") ∷ measured true (ascii "abc") ∷ [] ≡ Ok 3 ∷ Err (record { kind = RustPanics; place = file_span 0 0 }) ∷ []
unfolding measured refusal pick
all-measures = refl

-- what is behind the text stays, and after a refusal all does
pub all_left : afterwards false (ascii "abc") (ascii ".....") ∷ afterwards false (ascii "abc") (ascii "...") ∷ afterwards false (ascii "abc") (ascii "..") ∷ afterwards true (ascii "abc") (ascii ".....") ∷ []
    ≡ ascii "abc.." ∷ ascii "abc" ∷ ascii ".." ∷ ascii "....." ∷ []
unfolding afterwards left answer decided measured pick
all_left = refl
