-- What the reader accepts: a year from -9999 to 9999, a month of twelve, a day within its month, and a time in its ranges or none.
-- Assumes nothing.
use mathlib.Core.Path.{◌≡◌, refl, subst}
use mathlib.Core.List.{List}
use Prim.Native.Nat.{ℕ, ◌+◌, ◌^◌, ◌≤◌, ◌<◌}
use native.Mathlib.Omega.{arith}
use borrow.Author.Tests.{ltb-true}
use lib.IntN.{ℤ, nat_abs}
use Rattle.chars.proofs.Cases.{by-test}
use Rattle.scanner.specs.declared.Class.TheVariants.{Whitespace, Is}
use Rattle.scanner.specs.declared.Cursor.{Cursor}
use Rattle.dates.specs.declared.Time.{Time}
use Rattle.numbers.specs.declared.NoNumber.{NoNumber}
use Rattle.std.specs.Prelude.{Option, Some, None, Result, Ok, Err}
use Rattle.scanner.specs.Scan.{eat_while, eat_if}
use Rattle.refusals.specs.declared.Kind.TheVariants.{MonthOutOfRange, DayOutOfRange}
use Rattle.refusals.specs.declared.TextRefusal.{TextRefusal}
use Rattle.numbers.specs.declared.Digits.TheVariants.{Two, Four}
use Rattle.numbers.proofs.Laws.{IntIn, int, noint, panic, int-in}
use Rattle.dates.specs.Calendar.{month_length}
use Rattle.dates.specs.Clocks.{bad_time, has_bad_time, day_beside_month}
use Rattle.dates.specs.Domain.{PartsIn}
use Rattle.dates.specs.Value.{day, datetime}
use Rattle.dates.specs.declared.Month.{Month}
use Rattle.dates.specs.declared.Datetime.{Datetime}
use Rattle.points.specs.Step.{month_at, day_at, hyphen_at, on_part, on_separator, or_end}
use Rattle.points.specs.Point.{windowed, windowed_int, short_year, long_of, long_year, short_or, year_at, on_year, with_time, time_or, behind_day, behind_month, behind_year, point}
use Rattle.points.specs.Accepted.{Dated}
use Rattle.points.proofs.Clocks.{TimeIn, clock, noclock, time_in}
use Rattle.points.proofs.Ranges.{PartIn, part, nopart, part_in, windowed-in}

data Good : Result Datetime TextRefusal → Type 0 where
  good : {d : Datetime} → Dated d → Good (Ok d)
  refused : {e : TextRefusal} → Good (Err e)

data YearIn : Result (ℤ × Cursor) TextRefusal → Type 0 where
  year : {y : ℤ} {c : Cursor} → nat_abs y < 10000 → YearIn (Ok (y, c))
  noyear : {e : TextRefusal} → YearIn (Err e)

short-in : {r : Result (ℤ × Cursor) NoNumber} → IntIn (10 ^ 2) r → IntIn (10 ^ 4) (windowed_int r)
unfolding windowed_int
short-in (int {z} h) = int {z = windowed z} (windowed-in z h)
short-in noint = noint
short-in panic = panic

long-in : (at : ℕ) {r : Result (ℤ × Cursor) NoNumber} → IntIn (10 ^ 4) r → YearIn (long_of at r)
unfolding long_of
long-in at (int h) = year h
long-in at noint = noyear
long-in at panic = noyear

or-in : {r : Result (ℤ × Cursor) NoNumber} {long : Result (ℤ × Cursor) TextRefusal} → IntIn (10 ^ 4) r → YearIn long → YearIn (short_or r long)
unfolding short_or
or-in (int h) g = year h
or-in noint g = g
or-in panic g = noyear

year_in : (s : List ℕ) (at : ℕ) → YearIn (year_at s at)
unfolding year_at short_year long_year
year_in s at = or-in (short-in (int-in s at Two)) (long-in at (int-in s at Four))

-- each step, and what goes on from it
on-year : {r : Result (ℤ × Cursor) TextRefusal} {go : ℤ → ℕ → Result Datetime TextRefusal} → YearIn r → ((y : ℤ) (a : ℕ) → nat_abs y < 10000 → Good (go y a)) → Good (on_year r go)
unfolding on_year
on-year (year {y} {c} h) g = g y c.0 h
on-year noyear g = refused

on-separator : (r : Result Cursor TextRefusal) {go : ℕ → Result Datetime TextRefusal} → ((a : ℕ) → Good (go a)) → Good (on_separator Err r go)
unfolding on_separator
on-separator (Ok c) g = g c.0
on-separator (Err e) g = refused

on-part : {low high : ℕ} {r : Result (ℕ × Cursor) TextRefusal} {go : ℕ → ℕ → Result Datetime TextRefusal} → PartIn low high r → ((v a : ℕ) → v + low ≤ high → Good (go v a)) → Good (on_part Err r go)
unfolding on_part
on-part (part {v} {c} h) g = g v c.0 h
on-part nopart g = refused

or-end : (s : List ℕ) (at : ℕ) {d : Datetime} {go : ℕ → Result Datetime TextRefusal} → Dated d → ((a : ℕ) → Good (go a)) → Good (or_end s at (Ok d) go)
unfolding or_end
or-end s at w g = by-test Good _ (λ _. good w) (λ _. g (eat_while Whitespace s at))

-- a time is a good one, and changes nothing of the date
module _ (y : ℤ) (m : Month) (d : ℕ) (h : nat_abs y < 10000) (l : PartsIn y (Some m) (day d)) where
  time_good : {r : Result Time TextRefusal} → TimeIn r → Good (with_time y (Some m) (day d) r)
  unfolding with_time has_bad_time bad_time day_beside_month
  time_good (clock {t} e) = good {d = datetime y (Some m) (day d) (Some t)} (record { year_in = h; parts_in = l; time_in = rw e; unseasoned = refl })
  time_good noclock = refused

  or-good : (s : List ℕ) (a : ℕ) (r : Option Cursor) → Good (time_or s a y (Some m) (day d) r)
  unfolding time_or
  or-good s a (Some c) = time_good (time_in s c.0)
  or-good s a None = refused

  day-good : (s : List ℕ) (at : ℕ) → Good (behind_day s at y (Some m) (day d))
  unfolding behind_day has_bad_time bad_time
  day-good s at = or-end s at (record { year_in = h; parts_in = l; time_in = refl; unseasoned = refl }) λ a. or-good s a (eat_if (Is 0x54) s a)

month-good : (s : List ℕ) (at : ℕ) (y : ℤ) (m : Month) → nat_abs y < 10000 → m.0 < 12 → Good (behind_month s at y m)
unfolding behind_month day_at has_bad_time bad_time
month-good s at y m h l =
    or-end s at (record { year_in = h; parts_in = l; time_in = refl; unseasoned = refl }) λ a.
    on-separator (hyphen_at s a) λ b.
    on-part (part_in s b 1 31 DayOutOfRange) λ d next _.
    by-test Good _ (λ t. day-good y m d h (l, ltb-true d (month_length m.0 y) t) s next) (λ _. refused)

year-good : (s : List ℕ) (at : ℕ) (y : ℤ) → nat_abs y < 10000 → Good (behind_year s at y)
unfolding behind_year month_at has_bad_time bad_time
year-good s at y h =
    or-end s at (record { year_in = h; parts_in = tt; time_in = refl; unseasoned = refl }) λ a.
    on-separator (hyphen_at s a) λ b.
    on-part (part_in s b 1 12 MonthOutOfRange) λ m next l.
    month-good s next y (record { 0 = m }) h (omega (arith, l))

of-good : {d : Datetime} → Good (Ok d) → Dated d
of-good (good w) = w

-- every Datetime that the reader gives is one of the calendar, with a good time or none
pub accepted-date : (s : List ℕ) {d : Datetime} → point s ≡ Ok d → Dated d
unfolding point
accepted-date s e = of-good (subst Good e (on-year (year_in s 0) λ y next h. year-good s next y h))
