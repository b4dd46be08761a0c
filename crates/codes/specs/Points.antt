-- Usual points: dddd, dddd-mm and dddd-mm-dd without a sign, the last with a time or without, in the form that Dates are written in.
use Prim.Native.Char.{code}
use Rattle.std.specs.Prelude.{ℕ, ◌+◌, ◌-◌, ◌*◌, Bool, true, false, ◌&&◌, List, eqb, ltb, pos, length, get_or, Some, None, Option}
use Rattle.chars.specs.Pick.{pick}
use Rattle.chars.specs.Classes.{is_ascii_digit}
use Rattle.dates.specs.declared.Time.{Time}
use Rattle.dates.specs.declared.TimeOffset.{TimeOffset}
use Rattle.dates.specs.declared.TimeOffset.TheVariants.{Utc, Offset}
use Rattle.dates.specs.declared.Datetime.{Datetime}
use Rattle.dates.specs.Calendar.{month_length}
use Rattle.dates.specs.Time.{time}
use Rattle.dates.specs.Value.{datetime, month, day}

-- the number that two digits say; 100 for bytes that are none
unfoldable pub two_of : ℕ → ℕ → ℕ
two_of a b = pick (is_ascii_digit a && is_ascii_digit b) ((a - code "0") * 10 + (b - code "0")) 100

-- four digits likewise; 10000 for bytes that are none
unfoldable pub four_of : ℕ → ℕ → ℕ → ℕ → ℕ
four_of a b c d = pick (ltb (two_of a b) 100 && ltb (two_of c d) 100) (two_of a b * 100 + two_of c d) 10000

-- two digits at a place of a text
abbrev pub two_at : List ℕ → ℕ → ℕ
two_at s at = two_of (get_or s at 0) (get_or s (at + 1) 0)

-- the year at the front of a text
unfoldable pub year_of : List ℕ → ℕ
year_of s = four_of (get_or s 0 0) (get_or s 1 0) (get_or s 2 0) (get_or s 3 0)

-- a written month or day, counted from zero; 100 for 00
unfoldable pub counted_from : ℕ → ℕ
counted_from n = pick (eqb n 0) 100 (n - 1)

-- a hyphen and two digits at a place, counted from zero; 99 or more for bytes that are none
unfoldable pub part_at : List ℕ → ℕ → ℕ
part_at s at = pick (eqb (get_or s at 0) (code "-")) (counted_from (two_of (get_or s (at + 1) 0) (get_or s (at + 2) 0))) 100

-- dddd
unfoldable pub year_point : List ℕ → Option Datetime
year_point s = pick (ltb (year_of s) 10000) (Some (datetime (pos (year_of s)) None None None)) None

-- dddd-mm
unfoldable pub month_point : List ℕ → Option Datetime
month_point s =
    pick (ltb (year_of s) 10000 && ltb (part_at s 4) 12) (Some (datetime (pos (year_of s)) (month (part_at s 4)) None None)) None

-- dddd-mm-dd at the front, with a time that stands behind it or with none
unfoldable pub day_point : List ℕ → Option Time → Option Datetime
day_point s t =
    pick (ltb (year_of s) 10000 && (ltb (part_at s 4) 12 && ltb (part_at s 7) (month_length (part_at s 4) (pos (year_of s)))))
    (Some (datetime (pos (year_of s)) (month (part_at s 4)) (day (part_at s 7)) t))
    None

-- whether Thh:mm:ss stands behind the day
unfoldable pub is_clock : List ℕ → Bool
is_clock s =
    eqb (get_or s 10 0) (code "T")
    && (ltb (two_at s 11) 24
    && (eqb (get_or s 13 0) (code ":") && (ltb (two_at s 14) 60 && (eqb (get_or s 16 0) (code ":") && ltb (two_at s 17) 60))))

-- whether hh:mm stands behind the sign of an offset
unfoldable pub is_shift : List ℕ → Bool
is_shift s = ltb (two_at s 20) 24 && (eqb (get_or s 22 0) (code ":") && ltb (two_at s 23) 60)

-- an offset of a sign
unfoldable pub shift_by : Bool → List ℕ → Option (Option TimeOffset)
shift_by positive s = pick (is_shift s) (Some (Some (Offset positive (two_at s 20) (two_at s 23)))) None

-- what stands behind the seconds: nothing, Z, or a sign and hh:mm
unfoldable pub zone_of : List ℕ → Option (Option TimeOffset)
zone_of s =
    pick (eqb (length s) 19) (Some None)
    (pick (eqb (length s) 20) (pick (eqb (get_or s 19 0) (code "Z")) (Some (Some Utc)) None)
    (pick (eqb (length s) 25)
    (pick (eqb (get_or s 19 0) (code "+")) (shift_by true s) (pick (eqb (get_or s 19 0) (code "-")) (shift_by false s) None))
    None))

-- a value goes on, if there is one
unfoldable pub on_some : {A B : Type 0} → Option A → (A → Option B) → Option B
on_some None go = None
on_some (Some a) go = go a

-- the time of a day
unfoldable pub time_of : List ℕ → Option (Option Time)
time_of s = pick (is_clock s) (on_some (zone_of s) λ o. Some (Some (time (two_at s 11) (two_at s 14) (two_at s 17) o))) None

-- a point without a time: its length says which of the three it can be
unfoldable pub point_of : List ℕ → Option Datetime
point_of s =
    pick (eqb (length s) 4) (year_point s)
    (pick (eqb (length s) 7) (month_point s)
    (pick (eqb (length s) 10) (day_point s None) None))
