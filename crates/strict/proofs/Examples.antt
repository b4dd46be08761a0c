-- Texts of the strict grammar with the Date that each says, and texts that are not of it. Computed.
-- Assumes nothing.
use mathlib.Core.Path.{◌≡◌, refl}
use mathlib.Core.Bool.{true, false}
use mathlib.Core.List.{List, [], ◌∷◌, map}
use Prim.Native.Nat.{ℕ}
use Prim.Native.String.{String}
use lib.IntN.{pos, negsuc}
use Rattle.chars.specs.Pick.{pick}
use Rattle.chars.specs.Ascii.{ascii}
use Rattle.chars.specs.Classes.{within, is_ascii_digit}
use Rattle.chars.specs.Signs.{signed}
use Rattle.dates.specs.Calendar.{multiple, leap_year, february, month_lengths, month_length}
use Rattle.dates.specs.Time.{time}
use Rattle.dates.specs.Value.{datetime, date, month, day}
use Rattle.dates.specs.declared.TimeOffset.TheVariants.{Utc, Offset}
use Rattle.dates.specs.declared.Date.{Date}
use Rattle.std.specs.Prelude.{Option, Some, None}
use Rattle.dates.specs.declared.Datetime.{Datetime}
use Rattle.dates.specs.declared.DateValue.TheVariants.{At, After, Before, Between}
use Rattle.strict.specs.Grammar.{last_day}
use Rattle.strict.specs.Matcher as m

-- a text, and what it says
pub record Example : Type 0 where
  pub text : String
  pub says : Option Date

-- a year alone
abbrev year : ℕ → Datetime
year y = datetime (pos y) None None None

-- a day-XX range ends on the last day of its month
abbrev pub accepted : List Example
accepted =
    record { text = "2000"; says = Some (date (At (datetime (pos 2000) None None None)) false false) }
    ∷ record { text = "9999"; says = Some (date (At (datetime (pos 9999) None None None)) false false) }
    ∷ record { text = "-0044"; says = Some (date (At (datetime (negsuc 43) None None None)) false false) }
    ∷ record { text = "-0000"; says = Some (date (At (datetime (pos 0) None None None)) false false) }
    ∷ record { text = "2000-01"; says = Some (date (At (datetime (pos 2000) (month 0) None None)) false false) }
    ∷ record { text = "2000-12"; says = Some (date (At (datetime (pos 2000) (month 11) None None)) false false) }
    ∷ record { text = "2000-01-01"; says = Some (date (At (datetime (pos 2000) (month 0) (day 0) None)) false false) }
    ∷ record { text = "2000-12-31"; says = Some (date (At (datetime (pos 2000) (month 11) (day 30) None)) false false) }
    ∷ record { text = "2000-02-29"; says = Some (date (At (datetime (pos 2000) (month 1) (day 28) None)) false false) }
    ∷ record { text = "-0004-02-29"; says = Some (date (At (datetime (negsuc 3) (month 1) (day 28) None)) false false) }
    ∷ record { text = "2000-01-01T00:00:00"; says = Some (date (At (datetime (pos 2000) (month 0) (day 0) (Some (time 0 0 0 None)))) false false) }
    ∷ record { text = "2000-01-01T23:59:58Z"; says = Some (date (At (datetime (pos 2000) (month 0) (day 0) (Some (time 23 59 58 (Some Utc))))) false false) }
    ∷ record { text = "2000-01-01T10:20:59+23:59"; says = Some (date (At (datetime (pos 2000) (month 0) (day 0) (Some (time 10 20 59 (Some (Offset true 23 59)))))) false false) }
    ∷ record { text = "2000-01-01T10:20:30-00:00"; says = Some (date (At (datetime (pos 2000) (month 0) (day 0) (Some (time 10 20 30 (Some (Offset false 0 0)))))) false false) }
    ∷ record { text = "2000?"; says = Some (date (At (datetime (pos 2000) None None None)) true false) }
    ∷ record { text = "2000~"; says = Some (date (At (datetime (pos 2000) None None None)) false true) }
    ∷ record { text = "2000-01%"; says = Some (date (At (datetime (pos 2000) (month 0) None None)) true true) }
    ∷ record { text = "2001/2000"; says = Some (date (Between (year 2001) (year 2000)) false false) }
    ∷ record { text = "2000/.."; says = Some (date (After (year 2000)) false false) }
    ∷ record { text = "../2000?"; says = Some (date (Before (year 2000)) true false) }
    ∷ record { text = "19XX"; says = Some (date (Between (year 1900) (year 1999)) false false) }
    ∷ record { text = "199X"; says = Some (date (Between (year 1990) (year 1999)) false false) }
    ∷ record { text = "00XX~"; says = Some (date (Between (year 0) (year 99)) false true) }
    ∷ record { text = "2000-XX"; says = Some (date (Between (datetime (pos 2000) (month 0) None None) (datetime (pos 2000) (month 11) None None)) false false) }
    ∷ record { text = "2000-XX-XX"; says = Some (date (Between (datetime (pos 2000) (month 0) None None) (datetime (pos 2000) (month 11) None None)) false false) }
    ∷ record { text = "2000-02-XX"; says = Some (date (Between (datetime (pos 2000) (month 1) (day 0) None) (datetime (pos 2000) (month 1) (day 28) None)) false false) }
    ∷ record { text = "1900-02-XX"; says = Some (date (Between (datetime (pos 1900) (month 1) (day 0) None) (datetime (pos 1900) (month 1) (day 27) None)) false false) }
    ∷ record { text = "2000-04-XX~"; says = Some (date (Between (datetime (pos 2000) (month 3) (day 0) None) (datetime (pos 2000) (month 3) (day 29) None)) false true) }
    ∷ record { text = "2000-01-XX"; says = Some (date (Between (datetime (pos 2000) (month 0) (day 0) None) (datetime (pos 2000) (month 0) (day 30) None)) false false) }
    ∷ record { text = "2000-12-XX"; says = Some (date (Between (datetime (pos 2000) (month 11) (day 0) None) (datetime (pos 2000) (month 11) (day 30) None)) false false) }
    ∷ []

pub accepts : map (λ (e : Example). m.strict (ascii e.text)) accepted ≡ map (λ (e : Example). e.says) accepted
unfolding pick within is_ascii_digit signed multiple leap_year february month_lengths month_length last_day m.two m.on m.on_four m.four m.counted m.field m.shift_at m.offset_at m.time_at m.behind_month m.behind_year m.point_at m.point m.dash_xx m.years m.months m.days m.unknown_years m.unknown_parts m.unknown m.marked m.ending m.is_open m.on_point m.behind_open m.behind_slash m.from_point m.of_points m.on_unknown m.text_of m.strict
accepts = refl

-- texts that are not of the grammar
abbrev pub others : List String
others =
    "" ∷ "200" ∷ "20000" ∷ "49" ∷ "+2000" ∷ " 2000" ∷ "2000 " ∷ "2000-1" ∷ "2000-00" ∷ "2000-13" ∷ "2000-01-1" ∷
    "2000-01-00" ∷ "2000-01-32" ∷ "2000-04-31" ∷ "1900-02-29" ∷ "2000-1-01" ∷ "2000-01T10:20:30" ∷ "2000-01-01T10" ∷
    "2000-01-01T10:20" ∷ "2000-01-01T24:00:00" ∷ "2000-01-01T10:60:00" ∷ "2000-01-01T10:20:60" ∷
    "2000-01-01t10:20:30" ∷ "2000-01-01T10.20.30" ∷ "2000-01-01T10:20:30z" ∷ "2000-01-01T10:20:30+24:00" ∷
    "2000-01-01T10:20:30+02:60" ∷ "2000-01-01T10:20:30-02" ∷ "2000-01-01T10:20:30Z+02:00" ∷ "2000/" ∷ "/2000" ∷
    "../.." ∷ "../" ∷ "./2000" ∷ "2000/." ∷ "2000/2001/2002" ∷ "2000?/2001" ∷ "2000??" ∷ "2000!" ∷ "1XXX" ∷ "XXXX" ∷
    "19X" ∷ "19xx" ∷ "-19XX" ∷ "19XX/2005" ∷ "2000/19XX" ∷ "2000-X" ∷ "2000-XX-X" ∷ "2000-XX-01" ∷ "2000-00-XX" ∷
    "2000-13-XX" ∷ "2000-1-XX" ∷ "-2000-XX" ∷ []

pub refuses : map (λ (t : String). m.strict (ascii t)) others ≡ map (λ (t : String). None) others
unfolding pick within is_ascii_digit signed multiple leap_year february month_lengths month_length last_day m.two m.on m.on_four m.four m.counted m.field m.shift_at m.offset_at m.time_at m.behind_month m.behind_year m.point_at m.point m.dash_xx m.years m.months m.days m.unknown_years m.unknown_parts m.unknown m.marked m.ending m.is_open m.on_point m.behind_open m.behind_slash m.from_point m.of_points m.on_unknown m.text_of m.strict
refuses = refl
