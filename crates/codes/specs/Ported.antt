-- Texts that the ported reader alone reads, or refuses, at once: no year, a year of two digits, X ranges, and days that no month has. Places count
-- from the text's start.
use Prim.Native.Char.{code}
use Rattle.std.specs.Prelude.{ℕ, ◌+◌, ◌-◌, ◌*◌, Bool, true, false, not, ◌&&◌, ◌||◌, List, [], ◌∷◌, eqb, ltb, leb, pos, length, get_or, take, drop, None, Result, Ok, Err, Option, Some}
use Rattle.chars.specs.Pick.{pick}
use Rattle.dates.specs.declared.Date.{Date}
use Rattle.refusals.specs.declared.Refusal.{Refusal}
use Rattle.dates.specs.declared.Datetime.{Datetime}
use Rattle.dates.specs.declared.DateValue.TheVariants.{At, Between}
use Rattle.dates.specs.Calendar.{month_length}
use Rattle.dates.specs.Value.{datetime, date, month, day}
use Rattle.refusals.specs.declared.Kind.{Kind}
use Rattle.refusals.specs.declared.Kind.TheVariants.{InvalidFormat, MonthOutOfRange, DayOutOfRange}
use Rattle.refusals.specs.Refusal.{refusal, file_span}
use Rattle.refusals.specs.Offset.{saturating_add}
use Rattle.points.specs.Point.{windowed}
use Rattle.codes.specs.declared.Words.{Words}
use Rattle.codes.specs.Words.{words}
use Rattle.codes.specs.Points.{two_at, year_of, part_at, on_some, point_of}
use Rattle.codes.specs.Texts.{is_slash, slash_of}

-- refused at a place of the text
abbrev pub refused_at : Kind → ℕ → ℕ → Result Date Refusal
refused_at k start end = Err (refusal k (file_span start end))

-- a range of two dates, with no mark
abbrev pub range : Datetime → Datetime → Result Date Refusal
range a b = Ok (date (Between a b) false false)

-- an ASCII byte that is no X, in upper case or not, and no slash
unfoldable pub is_word_byte : ℕ → Bool
is_word_byte b = ltb b 0x80 && (not (eqb b (code "X")) && (not (eqb b (code "x")) && not (eqb b (code "/"))))

-- each byte is one
unfoldable pub are_word_bytes : List ℕ → Bool
are_word_bytes [] = true
are_word_bytes (b ∷ t) = is_word_byte b && are_word_bytes t

-- words that begin with no digit, sign or white space: no year is found at their front, and nothing else is looked for
unfoldable pub no_year : List ℕ → Option (Result Date Refusal)
no_year s = pick (leb (length s) 4096 && are_word_bytes s) (Some (refused_at InvalidFormat 0 0)) None

-- two digits
unfoldable pub short_year : List ℕ → Option (Result Date Refusal)
short_year s =
    pick (ltb (two_at s 0) 100) (Some (Ok (date (At (datetime (windowed (pos (two_at s 0))) None None None)) false false))) None

-- whether XX stands at a place
unfoldable pub is_unknown : List ℕ → ℕ → Bool
is_unknown s at = eqb (get_or s at 0) (code "X") && eqb (get_or s (at + 1) 0) (code "X")

-- ddXX: the years of a century
unfoldable pub years_of : List ℕ → Option (Result Date Refusal)
years_of s =
    pick (is_unknown s 2 && ltb (two_at s 0) 100)
    (Some (range (datetime (pos (two_at s 0 * 100)) None None None) (datetime (pos (two_at s 0 * 100 + 99)) None None None)))
    None

-- dddd-XX: the months of a year
unfoldable pub months_of : List ℕ → Option (Result Date Refusal)
months_of s =
    pick (is_unknown s 5 && (ltb (year_of s) 10000 && eqb (get_or s 4 0) (code "-")))
    (Some (range (datetime (pos (year_of s)) (month 0) None None) (datetime (pos (year_of s)) (month 11) None None)))
    None

-- dddd-mm-XX: the days 1 to 31, whatever the month
unfoldable pub days_of : List ℕ → Option (Result Date Refusal)
days_of s =
    pick (ltb (year_of s) 10000 && (ltb (part_at s 4) 12 && eqb (get_or s 7 0) (code "-")))
    (Some
    (range (datetime (pos (year_of s)) (month (part_at s 4)) (day 0) None) (datetime (pos (year_of s)) (month (part_at s 4)) (day 30) None)))
    None

-- a written month and a written day that are no day of a year: the month is none of twelve, the day none of 31, or not in that month
unfoldable pub bad_parts : ℕ → ℕ → ℕ → ℕ → Option (Result Date Refusal)
bad_parts at y m d =
    pick (eqb m 0 || ltb 12 m) (Some (refused_at MonthOutOfRange (at + 5) (at + 7)))
    (pick (eqb d 0 || ltb 31 d) (Some (refused_at DayOutOfRange (at + 8) (at + 10)))
    (pick (ltb (d - 1) (month_length (m - 1) (pos y))) None (Some (refused_at DayOutOfRange at (at + 10)))))

-- whether a text has the form dddd-dd-dd
unfoldable pub is_day_form : List ℕ → Bool
is_day_form s =
    ltb (year_of s) 10000
    && (eqb (get_or s 4 0) (code "-") && (ltb (two_at s 5) 100 && (eqb (get_or s 7 0) (code "-") && ltb (two_at s 8) 100)))

-- a text of that form which is no point, and begins at a place
unfoldable pub bad_day : ℕ → List ℕ → Option (Result Date Refusal)
bad_day at s = pick (is_day_form s) (bad_parts at (year_of s) (two_at s 5) (two_at s 8)) None

-- a day that is none, or one that is unknown
unfoldable pub day_or_days : List ℕ → Option (Result Date Refusal)
day_or_days s = pick (is_unknown s 8) (days_of s) (bad_day 0 s)

-- a range whose first half is a point, and whose second is a day that is none
unfoldable pub bad_range : List ℕ → ℕ → Option (Result Date Refusal)
bad_range s k =
    pick (is_slash s k && eqb (length s) (k + 11)) (on_some (point_of (take k s)) λ d. bad_day (k + 1) (drop (k + 1) s)) None

-- what the ported reader says of a text that is no written one
unfoldable pub ported : List ℕ → Option (Result Date Refusal)
ported s =
    pick (eqb (length s) 0) (Some (refused_at InvalidFormat 0 0))
    (pick (leb (code ":") (get_or s 0 0)) (no_year s)
    (pick (eqb (length s) 2) (short_year s)
    (pick (eqb (length s) 4) (years_of s)
    (pick (eqb (length s) 7) (months_of s)
    (pick (eqb (length s) 10) (day_or_days s)
    (bad_range s (slash_of s)))))))

-- the same in a list whose span starts at a place: a refusal's place moves with it
unfoldable pub moved_by : ℕ → Result Date Refusal → Result Date Refusal
moved_by start (Ok d) = Ok d
moved_by start (Err e) = Err (refusal e.kind (file_span (e.place.0 + start) (e.place.1 + start)))

-- the words of it: where there is a refusal, both ends of its place move, each up to the largest number
unfoldable pub moved_words : ℕ → Words → Words
moved_words start w =
    pick (ltb w.last 4294967296) w
    (words (saturating_add w.start start) (saturating_add w.end start) w.first w.first_time w.second w.second_time
    w.last)
