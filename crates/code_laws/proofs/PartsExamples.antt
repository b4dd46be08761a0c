-- Which fields are answered at once, and which are left to the readers: those that are refused, and those that are rare.
-- Assumes nothing.
use mathlib.Core.Path.{◌≡◌, refl}
use mathlib.Core.List.{List, [], ◌∷◌, map}
use Rattle.std.specs.Prelude.{Option, None, Some}
use Prim.Native.String.{String}
use lib.IntN.{ℤ, pos, negsuc}
use Rattle.chars.specs.Pick.{pick}
use Rattle.chars.specs.Ascii.{ascii}
use Rattle.chars.specs.Classes.{within, is_ascii_digit}
use Rattle.dates.specs.declared.Day.{Day}
use Rattle.dates.specs.declared.Month.{Month}
use Rattle.dates.specs.Value.{month, day}
use Rattle.fields.specs.Names.{lower, same_letters, month_in, get_month_for_name, get_month_for_abbr, or_else, month_for}
use Rattle.codes.specs.Points.{two_of}
use Rattle.codes.specs.Parts.{number_from, number_of, ends_with_era, era_year, year_part, small_of, is_letter, are_letters, some_month, named_month, month_part, day_part}

-- a field, and what is said of it
pub record Example (A : Type 0) : Type 0 where
  pub text : String
  pub says : Option A

abbrev pub years : List (Example ℤ)
years =
    record { text = "49"; says = Some (pos 49) }
    ∷ record { text = "0"; says = Some (pos 0) }
    ∷ record { text = "2024"; says = Some (pos 2024) }
    ∷ record { text = "1000 BC"; says = Some (negsuc 998) }
    ∷ record { text = "01 BC"; says = Some (pos 0) }
    ∷ record { text = "00 BC"; says = None }
    ∷ record { text = "5 BC"; says = None }
    ∷ record { text = "12345"; says = None }
    ∷ record { text = ""; says = None }
    ∷ record { text = "- 5"; says = None }
    ∷ []

abbrev pub months : List (Example (Option Month))
months =
    record { text = "1"; says = Some (month 0) }
    ∷ record { text = "13"; says = Some (month 12) }
    ∷ record { text = "Jul"; says = Some (month 6) }
    ∷ record { text = "SEPTEMBER"; says = Some (month 8) }
    ∷ record { text = "0"; says = None }
    ∷ record { text = "00"; says = None }
    ∷ record { text = "jul-4"; says = None }
    ∷ record { text = "xy"; says = None }
    ∷ record { text = ""; says = None }
    ∷ []

abbrev pub days : List (Example (Option Day))
days =
    record { text = "4"; says = Some (day 3) }
    ∷ record { text = "31"; says = Some (day 30) }
    ∷ record { text = "32"; says = None }
    ∷ record { text = "0"; says = None }
    ∷ record { text = "+4"; says = None }
    ∷ record { text = ""; says = None }
    ∷ []

pub year-examples : map (λ (e : Example ℤ). year_part (ascii e.text)) years ≡ map (λ (e : Example ℤ). e.says) years
unfolding pick within is_ascii_digit number_from number_of ends_with_era era_year year_part
year-examples = refl

pub month-examples : map (λ (e : Example (Option Month)). month_part (ascii e.text)) months ≡ map (λ (e : Example (Option Month)). e.says) months
unfolding pick within is_ascii_digit two_of small_of lower same_letters month_in get_month_for_name get_month_for_abbr or_else month_for is_letter are_letters some_month named_month month_part
month-examples = refl

pub day-examples : map (λ (e : Example (Option Day)). day_part (ascii e.text)) days ≡ map (λ (e : Example (Option Day)). e.says) days
unfolding pick within is_ascii_digit two_of small_of day_part
day-examples = refl
