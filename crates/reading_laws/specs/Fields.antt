-- Three chunk lists as the fields year, month and day.
use Rattle.std.specs.Prelude.{ℕ, List, ℤ, Option, Some, None, Result, Ok, Err}
use Rattle.chars.specs.Pick.{pick}
use Rattle.refusals.specs.declared.FileSpan.{FileSpan}
use Rattle.refusals.specs.Offset.{offset, unshifted}
use Rattle.dates.specs.declared.Date.{Date}
use Rattle.dates.specs.declared.Day.{Day}
use Rattle.dates.specs.declared.Month.{Month}
use Rattle.refusals.specs.declared.Refusal.{Refusal}
use Rattle.refusals.specs.declared.TextRefusal.{TextRefusal}
use Rattle.scanner.specs.declared.Cursor.{Cursor}
use Rattle.chunks.specs.Check.{or_else}
use Rattle.dates.specs.Value.{datetime, from_datetime}
use Rattle.fields.specs.Year.{get_year}
use Rattle.fields.specs.Month.{month_field}
use Rattle.fields.specs.Day.{day_in_month_field, day_field}
use Rattle.reading_laws.specs.Field.{on_clean}
use Rattle.chunks.specs.Lent.{Lent, Optional, Three, check_of, text_of, place_of}

-- each list present is checked in full, year, month, day, before any is read; a day list without a month list is never looked at
unfoldable pub parts_checked : Lent → Optional → Result (Unit {0}) Refusal
parts_checked month day = or_else (check_of month) (pick day.present (check_of day.list) (Ok tt))

-- the year list before them
unfoldable pub fields_checked : Three → Result (Unit {0}) Refusal
fields_checked t = or_else (check_of t.year) (pick t.month.present (parts_checked t.month.list t.day) (Ok tt))

-- a year; a refusal of it is moved by the year list's span
unfoldable pub moved_year : FileSpan → Result ℤ TextRefusal → Result ℤ Refusal
moved_year span (Ok y) = Ok y
moved_year span (Err e) = Err (offset e span.0)

-- the year list is formatted and not in upper case, so "bc" is no era
unfoldable pub year_of : Lent → Result ℤ Refusal
year_of year = moved_year (place_of year) (get_year (text_of year))

-- a month that was read goes on. What the month itself is refused for is a panic, which has no place
unfoldable pub on_month : Result (Option Month × Cursor) TextRefusal → (Option Month → ℕ → Result (Option Month × Option Day) Refusal) → Result (Option Month × Option Day) Refusal
on_month (Ok (m, c)) go = go m c.0
on_month (Err e) go = Err (unshifted e)

-- the day that the month field holds beside its month; its place is not shifted
unfoldable pub inside_day : Option Month → Result (Option Day) TextRefusal → Result (Option Month × Option Day) Refusal
inside_day m (Ok d) = Ok (m, d)
inside_day m (Err e) = Err (unshifted e)

-- the month of a text, and the day that it holds
unfoldable pub month_text : List ℕ → Result (Option Month × Option Day) Refusal
month_text s = on_month (month_field s) λ m c. inside_day m (day_in_month_field s c)

-- the month list without a day list
unfoldable pub month_alone : Lent → Result (Option Month × Option Day) Refusal
month_alone month = month_text (text_of month)

-- the day field beside a month, which need not have that day
unfoldable pub field_day : Option Month → Result Day Refusal → Result (Option Month × Option Day) Refusal
field_day m (Ok d) = Ok (m, Some d)
field_day m (Err e) = Err e

-- with a day list nobody looks for a day in the month list
unfoldable pub month_and_day : Lent → Lent → Result (Option Month × Option Day) Refusal
month_and_day month day = on_month (month_field (text_of month)) λ m _. field_day m (day_field (text_of day) (place_of day))

-- the month and the day, as far as the lists are present
unfoldable pub parts_of : Optional → Optional → Result (Option Month × Option Day) Refusal
parts_of month day =
    pick month.present
    (pick day.present (month_and_day month.list day.list) (month_alone month.list))
    (Ok (None, None))

-- three fields have no time and no mark
unfoldable pub dated : ℤ → Result (Option Month × Option Day) Refusal → Result Date Refusal
dated y (Ok (m, d)) = Ok (from_datetime (datetime y m d None))
dated y (Err e) = Err e

-- a year that was read goes on
unfoldable pub on_year : Result ℤ Refusal → (ℤ → Result Date Refusal) → Result Date Refusal
on_year (Ok y) go = go y
on_year (Err e) go = Err e

-- three lists without a fault
unfoldable pub read_fields : Three → Result Date Refusal
read_fields t = on_year (year_of t.year) λ y. dated y (parts_of t.month t.day)

-- three lists: a fault in any of them comes before what is read of the first
unfoldable pub three_fields : Three → Result Date Refusal
three_fields t = on_clean (fields_checked t) (read_fields t)
