-- The two ways of counting: by a formula, and from the table.
use Rattle.std.specs.Prelude.{ℕ, ◌+◌, ◌-◌, ◌*◌, ◌/◌, ◌%◌, Bool, true, false, ltb, pos, get_or, Option, Some, None, Result, Ok}
use Rattle.chars.specs.Pick.{pick}
use Rattle.dates.specs.declared.Datetime.{Datetime}
use Rattle.dates.specs.Calendar.{leap_year}
use Rattle.dates.specs.Value.{has_season}
use Rattle.days.specs.declared.Period.{Period}
use Rattle.refusals.specs.declared.Refusal.{Refusal}
use Rattle.days.specs.declared.Stretch.{Stretch}
use Rattle.days.specs.Covered.{not_adate, seasoned}
use Rattle.days.specs.Counts.{asked, period_from}
use Rattle.days.specs.Table.{table}

-- the days before a year: 365 for each year, and one more for each that is a leap year
abbrev pub year_days : ℕ → ℕ
year_days n = 365 * n + (n + 3) / 4 - (n + 99) / 100 + (n + 399) / 400

-- the days of a year before a month, as if February had 30
abbrev pub rough : ℕ → ℕ
rough m = (367 * m + 5) / 12

-- what February has not
abbrev pub fix : Bool → ℕ
fix true = 1
fix false = 2

-- the days of a year before a month
abbrev pub by_rule : Bool → ℕ → ℕ
by_rule leap m = pick (ltb m 2) (rough m) (rough m - fix leap)

-- the days before a month of a year, by the formula
abbrev pub by_formula : ℕ → ℕ → ℕ
by_formula n m = year_days n + by_rule (leap_year (pos n)) m

-- and from the table: those of whole cycles of 400 years, and the entry of the month
unfoldable pub by_table : ℕ → ℕ → ℕ
by_table n m = n / 400 * 146097 + get_or table (n % 400 * 12 + m) 0

-- the days of what is asked, by the days before a month
abbrev pub stretch_days : (ℕ → ℕ → ℕ) → Option Stretch → Result Period Refusal
stretch_days before None = not_adate
stretch_days before (Some s) = Ok (period_from (before s.year s.month + s.past) s.count)

-- the first and the last day of a Datetime, counted in one of the two ways; HasSeason comes before all else
unfoldable pub days_by : (ℕ → ℕ → ℕ) → Datetime → Result Period Refusal
days_by before d = pick (has_season d) seasoned (stretch_days before (asked d))
