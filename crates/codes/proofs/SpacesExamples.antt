-- What is left of texts without the spaces at their end: those inside stay, and so does other white space. And what is said of lists of such texts.
-- Assumes nothing.
use mathlib.Core.Path.{◌≡◌, refl}
use mathlib.Core.Bool.{true, false}
use mathlib.Core.List.{List, [], ◌∷◌, map}
use Prim.Native.Nat.{ℕ}
use Prim.Native.String.{String}
use lib.IntN.{pos}
use Rattle.chars.specs.Pick.{pick}
use Rattle.chars.specs.Ascii.{ascii}
use Rattle.chars.specs.Classes.{within, is_ascii_digit}
use Rattle.dates.specs.declared.Date.{Date}
use Rattle.refusals.specs.declared.Refusal.{Refusal}
use Rattle.std.specs.Prelude.{None, Result, Ok, Option, Some}
use Rattle.dates.specs.declared.DateValue.TheVariants.{At}
use Rattle.dates.specs.Value.{datetime, month, date}
use Rattle.datefield.specs.Text.{last_byte, is_uncertain, is_approximate, unmarked}
use Rattle.codes.specs.Points.{two_of, four_of, year_of, counted_from, part_at, year_point, month_point, on_some, point_of}
use Rattle.codes.specs.Texts.{is_slash, slash_of, value_of, written, are_spaces, unspaced}
use Rattle.codes.specs.Lists.{one_normal}
use Rattle.codes.specs.Spaced.{list_spaced}

-- a text, and what is left of it
pub record Example : Type 0 where
  pub text : String
  pub left : String

abbrev pub texts : List Example
texts =
    record { text = "2000  "; left = "2000" }
    ∷ record { text = "2000"; left = "2000" }
    ∷ record { text = "   "; left = "" }
    ∷ record { text = ""; left = "" }
    ∷ record { text = " 2000 ? "; left = " 2000 ?" }
    ∷ record { text = "2000\t"; left = "2000\t" }
    ∷ record { text = "2000 \n "; left = "2000 \n" }
    ∷ []

pub text-examples : map (λ (e : Example). unspaced (ascii e.text)) texts ≡ map (λ (e : Example). ascii e.left) texts
unfolding pick are_spaces unspaced
text-examples = refl

-- a list's bytes and table, and what is said of it
pub record ListExample : Type 0 where
  pub bytes : String
  pub table : List ℕ
  pub says : Option (Result Date Refusal)

abbrev pub lists : List ListExample
lists =
    record { bytes = "2000  "; table = 0 ∷ 6 ∷ 7 ∷ 13 ∷ []; says = Some (Ok (date (At (datetime (pos 2000) None None None)) false false)) }
    ∷ record { bytes = "2000-07? "; table = 0 ∷ 9 ∷ 0 ∷ 9 ∷ []; says = Some (Ok (date (At (datetime (pos 2000) (month 6) None None)) true false)) }
    ∷ record { bytes = "2000 ?"; table = 0 ∷ 6 ∷ 0 ∷ 6 ∷ []; says = None }
    ∷ record { bytes = "2000 "; table = 1 ∷ 5 ∷ 0 ∷ 5 ∷ []; says = None }
    ∷ record { bytes = " "; table = 0 ∷ 1 ∷ 0 ∷ 1 ∷ []; says = None }
    ∷ []

pub list-examples : map (λ (e : ListExample). list_spaced (ascii e.bytes) e.table) lists ≡ map (λ (e : ListExample). e.says) lists
unfolding pick within is_ascii_digit two_of four_of year_of counted_from part_at year_point month_point on_some point_of last_byte is_uncertain is_approximate unmarked is_slash slash_of value_of written are_spaces unspaced one_normal list_spaced
list-examples = refl
