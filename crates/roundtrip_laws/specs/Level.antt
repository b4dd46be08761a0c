-- The Dates whose text by the writer of level one is read back by its reader, and what that reader gives.
use Rattle.std.specs.Prelude.{◌≤◌, ◌<◌, ◌≡◌, true, ℤ, nat_abs, Option, None}
use Rattle.dates.specs.declared.Season.{Season}
use Rattle.dates.specs.declared.Datetime.{Datetime}
use Rattle.dates.specs.declared.DateValue.{DateValue}
use Rattle.dates.specs.Domain.{EndIn}
use Rattle.dates.specs.Ends.{EachEnd}
use Rattle.dates.specs.Value.{datetime, season_of, is_season, has_season}
use Rattle.points.specs.Accepted.{Dated}

-- one end: of the calendar and without a season, a season of a year of four digits, or a year of five to nine digits alone
pub data LevelIn : Datetime → Type 0 where
  of_calendar : {d : Datetime} → EndIn d → LevelIn d
  of_season : {y : ℤ} {s : Option Season} → nat_abs y < 10000 → is_season s ≡ true → LevelIn (season_of y s)
  of_long_year : {y : ℤ} → 10000 ≤ nat_abs y → nat_abs y < 1000000000 → LevelIn (datetime y None None None)

-- every end of a Date
abbrev pub InLevel : DateValue → Type 0
InLevel v = EachEnd LevelIn v

-- one end as it is read: of the calendar and perhaps with a time, a season of a year, or a long year
pub data Given : Datetime → Type 0 where
  on_calendar : {d : Datetime} → Dated d → Given d
  in_season : {y : ℤ} {s : Option Season} → nat_abs y < 10000 → is_season s ≡ true → Given (season_of y s)
  long_year : {y : ℤ} → 10000 ≤ nat_abs y → nat_abs y < 1000000000 → Given (datetime y None None None)

-- a season has no month, no day and no time beside it
abbrev pub Alone : Datetime → Type 0
Alone a = has_season a ≡ true → (a.month ≡ None) × (a.day ≡ None) × (a.time ≡ None)

-- a year of at most four digits
abbrev pub ShortYear : Datetime → Type 0
ShortYear a = nat_abs a.year < 10000
