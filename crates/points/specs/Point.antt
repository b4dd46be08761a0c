-- A point of a date field: year, then month, then day, then T with a time; with the place of each refusal, counted from the text's start.
use Rattle.std.specs.Prelude.{ℕ, List, ltb, ℤ, pos, ◌+ℤ◌, Option, Some, None, Result, Ok, Err}
use Prim.Native.Char.{code}
use Rattle.std.specs.Int.Signed.{lt_z}
use Rattle.chars.specs.Pick.{pick}
use Rattle.scanner.specs.declared.Class.TheVariants.{Is}
use Rattle.dates.specs.declared.Datetime.{Datetime}
use Rattle.dates.specs.declared.Day.{Day}
use Rattle.dates.specs.declared.Time.{Time}
use Rattle.numbers.specs.declared.NoNumber.{NoNumber}
use Rattle.numbers.specs.declared.NoNumber.TheVariants.{Panics, Wrong}
use Rattle.refusals.specs.declared.TextRefusal.{TextRefusal}
use Rattle.scanner.specs.declared.Cursor.{Cursor}
use Rattle.scanner.specs.Scan.{eat_if}
use Rattle.refusals.specs.Offset.{text_refusal, panics}
use Rattle.refusals.specs.declared.Kind.TheVariants.{InvalidFormat, DayOutOfRange}
use Rattle.numbers.specs.Number.{parse_int}
use Rattle.numbers.specs.declared.Digits.TheVariants.{Two, Four}
use Rattle.dates.specs.Calendar.{month_length}
use Rattle.dates.specs.Value.{day, datetime}
use Rattle.dates.specs.declared.Month.{Month}
use Rattle.points.specs.Step.{refuse_number, month_at, day_at, hyphen_at, on_part, on_separator, or_end}
use Rattle.points.specs.Time.{time_at}

-- a year of two bytes with its sign: below 50 adds 2000, else 1900, so that -12 is 1988
unfoldable pub windowed : ℤ → ℤ
windowed y = pick (lt_z y (pos 50)) (y +ℤ pos 2000) (y +ℤ pos 1900)

-- the window comes behind the sign: it is the signed year that is below 50 or not
unfoldable pub windowed_int : Result (ℤ × Cursor) NoNumber → Result (ℤ × Cursor) NoNumber
windowed_int (Ok (y, c)) = Ok (windowed y, c)
windowed_int (Err e) = Err e

-- a sign and two numeric bytes
unfoldable pub short_year : List ℕ → ℕ → Result (ℤ × Cursor) NoNumber
short_year s at = windowed_int (parse_int s at Two)

-- the year itself; another length is refused from where reading began to the end of the run
unfoldable pub long_of : ℕ → Result (ℤ × Cursor) NoNumber → Result (ℤ × Cursor) TextRefusal
long_of at (Ok (y, c)) = Ok (y, c)
long_of at (Err e) = Err (refuse_number at e)

-- a sign and four numeric bytes
unfoldable pub long_year : List ℕ → ℕ → Result (ℤ × Cursor) TextRefusal
long_year s at = long_of at (parse_int s at Four)

-- a short year, or else the long one
unfoldable pub short_or : Result (ℤ × Cursor) NoNumber → Result (ℤ × Cursor) TextRefusal → Result (ℤ × Cursor) TextRefusal
short_or (Ok (y, c)) long = Ok (y, c)
short_or (Err (Wrong c)) long = long
short_or (Err Panics) long = Err panics

-- a year of two bytes, or else one of four from the same place on
unfoldable pub year_at : List ℕ → ℕ → Result (ℤ × Cursor) TextRefusal
year_at s at = short_or (short_year s at) (long_year s at)

-- on with the year that was read, or its refusal
unfoldable pub on_year : Result (ℤ × Cursor) TextRefusal → (ℤ → ℕ → Result Datetime TextRefusal) → Result Datetime TextRefusal
on_year (Ok (y, c)) go = go y c.0
on_year (Err e) go = Err e

-- the point with the time that was read, or its refusal
unfoldable pub with_time : ℤ → Option Month → Option Day → Result Time TextRefusal → Result Datetime TextRefusal
with_time y m d (Ok t) = Ok (datetime y m d (Some t))
with_time y m d (Err e) = Err e

-- behind the T a time; without a T the place is from the text's start to where it should stand
unfoldable pub time_or : List ℕ → ℕ → ℤ → Option Month → Option Day → Option Cursor → Result Datetime TextRefusal
time_or s a y m d (Some c) = with_time y m d (time_at s c.0)
time_or s a y m d None = Err (text_refusal InvalidFormat 0 a)

-- behind the day: the end, or T and a time
unfoldable pub behind_day : List ℕ → ℕ → ℤ → Option Month → Option Day → Result Datetime TextRefusal
behind_day s at y m d = or_end s at (Ok (datetime y m d None)) λ a. time_or s a y m d (eat_if (Is (code "T")) s a)

-- behind the month: the end, or a day within that month; one beyond it is refused from the text's start to its end
unfoldable pub behind_month : List ℕ → ℕ → ℤ → Month → Result Datetime TextRefusal
behind_month s at y m =
    or_end s at (Ok (datetime y (Some m) None None)) λ a.
    on_separator Err (hyphen_at s a) λ b.
    on_part Err (day_at s b) λ d next.
    pick (ltb d (month_length m.0 y)) (behind_day s next y (Some m) (day d)) (Err (text_refusal DayOutOfRange 0 next))

-- behind the year: the end, or a month
unfoldable pub behind_year : List ℕ → ℕ → ℤ → Result Datetime TextRefusal
behind_year s at y =
    or_end s at (Ok (datetime y None None None)) λ a.
    on_separator Err (hyphen_at s a) λ b.
    on_part Err (month_at s b) λ m next.
    behind_month s next y (record { 0 = m })

-- a point: each part may be the last one, and every place counts from the text's start
unfoldable pub point : List ℕ → Result Datetime TextRefusal
point s = on_year (year_at s 0) λ y next. behind_year s next y
