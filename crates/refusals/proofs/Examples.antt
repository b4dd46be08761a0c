-- The worked examples of places, with each answer written out in numbers: the refusal's own, the start, the end.
-- Assumes nothing.
use Prim.Native.Nat.{ℕ}
use mathlib.Core.Path.{◌≡◌, refl}
use mathlib.Core.List.{List, [], ◌∷◌, map}
use Rattle.chars.specs.Pick.{pick}
use Rattle.refusals.specs.declared.Kind.TheVariants.{UndefinedRange, DayOutOfRange, MonthOutOfRange, InvalidNumber, InvalidFormat, RustPanics, BadUtf8, UnsupportedChar, NotStrict, TooLong}
use Rattle.refusals.specs.declared.Refusal.{Refusal}
use Rattle.refusals.specs.Refusal.{number, file_span, refusal, nowhere, bytes_at}
use Rattle.refusals.specs.Offset.{saturating_add, text_refusal, offset, offset_second, offset_number, unshifted, until_span_end}

-- a refusal in numbers
abbrev pub in_numbers : Refusal → List ℕ
in_numbers e = number e.kind ∷ e.place.0 ∷ e.place.1 ∷ []

pub record Row : Type 0 where
  pub given : Refusal
  pub says : List ℕ

-- a whole text, or a first half: moved by the span start, which saturates. 2^64 - 1 is 18446744073709551615
abbrev pub first_rows : List Row
first_rows =
    record { given = offset (text_refusal InvalidFormat 0 3) 0; says = 7 ∷ 0 ∷ 3 ∷ [] }
    ∷ record { given = offset (text_refusal InvalidFormat 0 3) 100; says = 7 ∷ 100 ∷ 103 ∷ [] }
    ∷ record { given = offset (text_refusal MonthOutOfRange 5 8) 100; says = 3 ∷ 105 ∷ 108 ∷ [] }
    ∷ record { given = offset (text_refusal InvalidFormat 0 3) 18446744073709551611; says = 7 ∷ 18446744073709551611 ∷ 18446744073709551614 ∷ [] }
    ∷ record { given = offset (text_refusal InvalidFormat 0 4) 18446744073709551611; says = 7 ∷ 18446744073709551611 ∷ 18446744073709551615 ∷ [] }
    ∷ record { given = offset (text_refusal InvalidFormat 0 5) 18446744073709551611; says = 7 ∷ 18446744073709551611 ∷ 18446744073709551615 ∷ [] }
    ∷ record { given = offset (text_refusal InvalidFormat 0 3) 18446744073709551614; says = 7 ∷ 18446744073709551614 ∷ 18446744073709551615 ∷ [] }
    ∷ record { given = offset (text_refusal InvalidFormat 2 3) 18446744073709551614; says = 7 ∷ 18446744073709551615 ∷ 18446744073709551615 ∷ [] }
    ∷ record { given = offset (text_refusal InvalidFormat 0 3) 18446744073709551615; says = 7 ∷ 18446744073709551615 ∷ 18446744073709551615 ∷ [] }
    ∷ record { given = offset (text_refusal RustPanics 0 0) 100; says = 9 ∷ 0 ∷ 0 ∷ [] }
    ∷ []

pub first : map (λ (r : Row). in_numbers r.given) first_rows ≡ map (λ (r : Row). r.says) first_rows
unfolding pick saturating_add refusal offset
first = refl

-- a second half: moved by the span start, the position of the slash and 1. That sum panics; moving by it saturates
abbrev pub second_rows : List Row
second_rows =
    record { given = offset_second (text_refusal InvalidFormat 0 0) 0 4; says = 7 ∷ 5 ∷ 5 ∷ [] }
    ∷ record { given = offset_second (text_refusal InvalidFormat 0 0) 100 4; says = 7 ∷ 105 ∷ 105 ∷ [] }
    ∷ record { given = offset_second (text_refusal DayOutOfRange 0 10) 100 10; says = 2 ∷ 111 ∷ 121 ∷ [] }
    ∷ record { given = offset_second (text_refusal InvalidFormat 0 3) 18446744073709551610 4; says = 7 ∷ 18446744073709551615 ∷ 18446744073709551615 ∷ [] }
    ∷ record { given = offset_second (text_refusal InvalidFormat 0 0) 18446744073709551611 4; says = 9 ∷ 0 ∷ 0 ∷ [] }
    ∷ record { given = offset_second (text_refusal InvalidFormat 0 0) 18446744073709551611 3; says = 7 ∷ 18446744073709551615 ∷ 18446744073709551615 ∷ [] }
    ∷ record { given = offset_second (text_refusal InvalidFormat 0 2) 18446744073709551611 0; says = 7 ∷ 18446744073709551612 ∷ 18446744073709551614 ∷ [] }
    ∷ record { given = offset_second (text_refusal InvalidFormat 0 0) 18446744073709551614 0; says = 7 ∷ 18446744073709551615 ∷ 18446744073709551615 ∷ [] }
    ∷ record { given = offset_second (text_refusal InvalidFormat 0 0) 18446744073709551614 1; says = 9 ∷ 0 ∷ 0 ∷ [] }
    ∷ record { given = offset_second (text_refusal InvalidFormat 0 0) 18446744073709551615 0; says = 9 ∷ 0 ∷ 0 ∷ [] }
    ∷ record { given = offset_second (text_refusal RustPanics 0 0) 100 4; says = 9 ∷ 0 ∷ 0 ∷ [] }
    ∷ []

pub second : map (λ (r : Row). in_numbers r.given) second_rows ≡ map (λ (r : Row). r.says) second_rows
unfolding pick saturating_add refusal offset offset_second
second = refl

-- the own place of a page number: moved by the span start, and a sum that is too large panics
abbrev pub numbers_rows : List Row
numbers_rows =
    record { given = offset_number (text_refusal InvalidNumber 2 2) 100; says = 4 ∷ 102 ∷ 102 ∷ [] }
    ∷ record { given = offset_number (text_refusal InvalidNumber 0 4) 18446744073709551611; says = 4 ∷ 18446744073709551611 ∷ 18446744073709551615 ∷ [] }
    ∷ record { given = offset_number (text_refusal InvalidNumber 0 5) 18446744073709551611; says = 9 ∷ 0 ∷ 0 ∷ [] }
    ∷ record { given = offset_number (text_refusal InvalidNumber 1 1) 18446744073709551614; says = 4 ∷ 18446744073709551615 ∷ 18446744073709551615 ∷ [] }
    ∷ record { given = offset_number (text_refusal InvalidNumber 2 2) 18446744073709551614; says = 9 ∷ 0 ∷ 0 ∷ [] }
    ∷ record { given = offset_number (text_refusal InvalidNumber 0 0) 18446744073709551615; says = 4 ∷ 18446744073709551615 ∷ 18446744073709551615 ∷ [] }
    ∷ record { given = offset_number (text_refusal InvalidNumber 0 1) 18446744073709551615; says = 9 ∷ 0 ∷ 0 ∷ [] }
    ∷ []

pub numbers : map (λ (r : Row). in_numbers r.given) numbers_rows ≡ map (λ (r : Row). r.says) numbers_rows
unfolding pick refusal offset_number
numbers = refl

-- the two exceptions: the place in the text as it is, and its start alone
abbrev pub exceptions_rows : List Row
exceptions_rows =
    record { given = unshifted (text_refusal DayOutOfRange 4 6); says = 2 ∷ 4 ∷ 6 ∷ [] }
    ∷ record { given = unshifted (text_refusal RustPanics 4 6); says = 9 ∷ 0 ∷ 0 ∷ [] }
    ∷ record { given = until_span_end InvalidNumber 2 (file_span 10 20); says = 4 ∷ 2 ∷ 20 ∷ [] }
    ∷ record { given = until_span_end InvalidNumber 2 (file_span 18446744073709551615 9); says = 4 ∷ 2 ∷ 9 ∷ [] }
    ∷ []

pub exceptions : map (λ (r : Row). in_numbers r.given) exceptions_rows ≡ map (λ (r : Row). r.says) exceptions_rows
unfolding pick refusal unshifted until_span_end
exceptions = refl

-- places of lent bytes and of a span are as they are; what names no place has 0, 0
abbrev pub others_rows : List Row
others_rows =
    record { given = bytes_at BadUtf8 3 4; says = 10 ∷ 3 ∷ 4 ∷ [] }
    ∷ record { given = bytes_at UnsupportedChar 2 5; says = 11 ∷ 2 ∷ 5 ∷ [] }
    ∷ record { given = nowhere TooLong; says = 16 ∷ 0 ∷ 0 ∷ [] }
    ∷ record { given = nowhere RustPanics; says = 9 ∷ 0 ∷ 0 ∷ [] }
    ∷ record { given = refusal NotStrict (file_span 3 4); says = 12 ∷ 0 ∷ 0 ∷ [] }
    ∷ record { given = refusal UndefinedRange (file_span 100 105); says = 1 ∷ 100 ∷ 105 ∷ [] }
    ∷ []

pub others : map (λ (r : Row). in_numbers r.given) others_rows ≡ map (λ (r : Row). r.says) others_rows
unfolding pick refusal
others = refl
