-- The order of Datetimes and of times, as the ported code has it. Four answers: less, equal, greater, none.
use Rattle.std.specs.Prelude.{Bool, true, false, ◌||◌, ℤ, pos, Option, Some, None, Result, Ok, Err}
use Rattle.std.specs.declared.cmp.Ordering.{Ordering}
use Rattle.std.specs.declared.cmp.Ordering.TheVariants.{Equal, Greater, Less}
use Rattle.std.specs.Int.Signed.{lt_z}
use Rattle.chars.specs.Pick.{pick}
use Rattle.dates.specs.declared.Day.{Day}
use Rattle.dates.specs.declared.Month.{Month}
use Rattle.dates.specs.declared.TimeOffset.{TimeOffset}
use Rattle.refusals.specs.declared.Refusal.{Refusal}
use Rattle.dates.specs.declared.Time.{Time}
use Rattle.dates.specs.declared.Datetime.{Datetime}
use Rattle.dates.specs.Time.{utc_seconds}
use Rattle.dates.specs.Value.{has_season}
use Rattle.refusals.specs.declared.Kind.TheVariants.{HasSeason}
use Rattle.refusals.specs.Refusal.{file_span, refusal}

-- two numbers are never without an order
unfoldable pub number_order : ℤ → ℤ → Option Ordering
number_order a b = pick (lt_z a b) (Some Less) (pick (lt_z b a) (Some Greater) (Some Equal))

-- in turn: the next is looked at only where the first is equal
unfoldable pub in_turn : Option Ordering → Option Ordering → Option Ordering
in_turn (Some Less) next = Some Less
in_turn (Some Equal) next = next
in_turn (Some Greater) next = Some Greater
in_turn None next = None

-- present against absent gives none; both absent gives equal and stops; where both are present it goes on
unfoldable pub both : {A : Type 0} → Option A → Option A → (A → A → Option Ordering) → Option Ordering
both None None go = Some Equal
both None (Some y) go = None
both (Some x) None go = None
both (Some x) (Some y) go = go x y

-- the stored month as a number, if there is one
unfoldable pub month_of : Option Month → Option ℤ
month_of None = None
month_of (Some m) = Some (pos m.0)

-- the stored day likewise
unfoldable pub day_of : Option Day → Option ℤ
day_of None = None
day_of (Some d) = Some (pos d.0)

-- whether both have an offset, or neither has
unfoldable pub alike : Option TimeOffset → Option TimeOffset → Bool
alike None None = true
alike None (Some q) = false
alike (Some p) None = false
alike (Some p) (Some q) = true

-- times compare by UTC seconds, and give none if only one has an offset
unfoldable pub time_order : Time → Time → Option Ordering
time_order s t = pick (alike s.offset t.offset) (number_order (utc_seconds s) (utc_seconds t)) None

-- from the times on, which come last
unfoldable pub from_time : Datetime → Datetime → Option Ordering
from_time a b = both a.time b.time time_order

-- from the days on: the day, then the time
unfoldable pub from_day : Datetime → Datetime → Option Ordering
from_day a b = both (day_of a.day) (day_of b.day) λ d e. in_turn (number_order d e) (from_time a b)

-- from the months on: the month, then the day and the time
unfoldable pub from_month : Datetime → Datetime → Option Ordering
from_month a b = both (month_of a.month) (month_of b.month) λ m n. in_turn (number_order m n) (from_day a b)

-- year, month, day, time in turn
unfoldable pub order : Datetime → Datetime → Option Ordering
order a b = in_turn (number_order a.year b.year) (from_month a b)

-- a date with a season is not compared
unfoldable pub seasoned : Result (Option Ordering) Refusal
seasoned = Err (refusal HasSeason (file_span 0 0))

-- the comparison: HasSeason if either has a season, else the order, which looks at none
unfoldable pub partial_cmp : Datetime → Datetime → Result (Option Ordering) Refusal
partial_cmp a b = pick (has_season a || has_season b) seasoned (Ok (order a b))
