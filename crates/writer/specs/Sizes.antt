-- How large the parts of a Date can be: as it is stored, and as the readers give it.
use Rattle.std.specs.Prelude.{ℕ, ◌<◌, ◌≡◌, true, false, nat_abs, Option, Some, None}
use Rattle.std.specs.Int.{w32}
use Rattle.std.proofs.Common.{SFits}
use Rattle.dates.specs.declared.Day.{Day}
use Rattle.dates.specs.declared.Month.{Month}
use Rattle.dates.specs.declared.Datetime.{Datetime}
use Rattle.dates.specs.declared.DateValue.{DateValue}
use Rattle.dates.specs.Ends.{EachEnd}
use Rattle.dates.specs.Value.{has_season}

-- a month below a number, if there is one
abbrev pub MonthUnder : ℕ → Option Month → Type 0
MonthUnder n None = Unit {0}
MonthUnder n (Some m) = m.0 < n

-- a day likewise
abbrev pub DayUnder : ℕ → Option Day → Type 0
DayUnder n None = Unit {0}
DayUnder n (Some d) = d.0 < n

-- as it is stored
pub record Stored (d : Datetime) : Type 0 where
  -- a year in 32 bits
  pub year_in : SFits w32 d.year
  -- a month in a byte
  pub month_in : MonthUnder 256 d.month
  -- a day in a byte
  pub day_in : DayUnder 256 d.day

-- every end is
abbrev pub Ends : DateValue → Type 0
Ends v = EachEnd Stored v

-- as the ported and the strict reader give it
pub record Narrow (d : Datetime) : Type 0 where
  -- a year of four digits
  pub year_in : nat_abs d.year < 10000
  -- a month that is written with two
  pub month_in : MonthUnder 99 d.month
  -- a day that is
  pub day_in : DayUnder 99 d.day

-- every end is
abbrev pub NarrowEnds : DateValue → Type 0
NarrowEnds v = EachEnd Narrow v

-- an end as the reader of level one gives it: as the strict reader does, a season of a year, or a long year alone
pub data LevelNarrow : Datetime → Type 0 where
  narrow : {d : Datetime} → has_season d ≡ false → Narrow d → LevelNarrow d
  seasoned : {d : Datetime} → has_season d ≡ true → nat_abs d.year < 10000 → LevelNarrow d
  long : {d : Datetime} → has_season d ≡ false → d.month ≡ None → nat_abs d.year < 1000000000 → LevelNarrow d
