-- Two broadcasts across midnight, Datetimes that are no instants, and comparisons that are refused. Assumes nothing.
use mathlib.Core.Path.{◌≡◌, refl, ◌∙◌}
use mathlib.Core.Bool.{true, false}
use mathlib.Core.List.{List, [], ◌∷◌, map}
use Prim.Native.Nat.{ℕ}
use lib.IntN.{ℤ, pos, negsuc}
use Rattle.chars.specs.Pick.{pick}
use Rattle.refusals.specs.declared.Kind.{Kind}
use Rattle.refusals.specs.declared.Kind.TheVariants.{NotACalendarDate, BadTime, HasSeason, NoInstant}
use Rattle.refusals.specs.Refusal.{file_span, refusal}
use Rattle.dates.specs.declared.Season.TheVariants.{Spring, Winter}
use Rattle.dates.specs.declared.Time.{Time}
use Rattle.dates.specs.declared.TimeOffset.{TimeOffset}
use Rattle.refusals.specs.declared.Refusal.{Refusal}
use Rattle.std.specs.Prelude.{Option, Some, None, Result, Ok, Err}
use Rattle.std.specs.declared.cmp.Ordering.{Ordering}
use Rattle.std.specs.declared.cmp.Ordering.TheVariants.{Equal, Greater, Less}
use Rattle.dates.specs.declared.TimeOffset.TheVariants.{Utc, Offset}
use Rattle.dates.specs.declared.Datetime.{Datetime}
use Rattle.dates.specs.Calendar.{multiple, leap_year, february, month_lengths, month_length}
use Rattle.dates.specs.Value.{month, day, datetime, season_of}
use Rattle.dates.specs.Time.{time, in_range, seconds, ahead_or_behind, offset_seconds, ahead_of, utc_seconds}
use Rattle.days.specs.Days.{total, year_length}
use Rattle.days.specs.Covered.{year_in, not_adate, seasoned}
use Rattle.days.specs.Counts.{counted, asked_month, asked_year, asked, numbered, period_from}
use Rattle.days.specs.Ways.{by_formula, days_by}
use Rattle.days.proofs.Engines.{formula-covers}
use Rattle.order.specs.Order as ported
use Rattle.dates.specs.Clocks.{offset_in, zone_in, clock_in, has_bad_time}
use Rattle.dates.specs.Clocks as clocks
use Rattle.instants.specs.Instants.{refused_instant, seconds_at, on_time, on_day_and_time, on_covered, instant_of, both, compared}

abbrev at : ℕ → ℕ → ℕ → Option TimeOffset → Option Time
at h m s o = Some (time h m s o)

-- the last hour of a day in UTC, and half past ten of it, as a clock two hours ahead shows it on the next day
abbrev pub late : Datetime
late = datetime (pos 2000) (month 0) (day 0) (at 23 0 0 (Some Utc))

abbrev pub ahead : Datetime
ahead = datetime (pos 2000) (month 0) (day 1) (at 0 30 0 (Some (Offset true 2 0)))

-- by the formula, which is quicker to compute than the sum of the months
abbrev counted-on : Datetime → Result ℤ Refusal
counted-on d = on_covered d (days_by by_formula d)

counting : (d : Datetime) → instant_of d ≡ counted-on d
unfolding instant_of
counting d = rw (formula-covers d)

late_is : instant_of late ≡ Ok (pos 63113986800)
unfolding days_by seasoned asked asked_year asked_month year_in counted year_length total numbered period_from not_adate multiple leap_year february month_lengths month_length pick refused_instant seconds_at on_time on_day_and_time on_covered in_range seconds ahead_or_behind offset_seconds ahead_of utc_seconds offset_in zone_in clock_in clocks.day_beside_month clocks.bad_time has_bad_time
late_is = counting late ∙ refl

ahead-is : instant_of ahead ≡ Ok (pos 63113985000)
unfolding days_by seasoned asked asked_year asked_month year_in counted year_length total numbered period_from not_adate multiple leap_year february month_lengths month_length pick refused_instant seconds_at on_time on_day_and_time on_covered in_range seconds ahead_or_behind offset_seconds ahead_of utc_seconds offset_in zone_in clock_in clocks.day_beside_month clocks.bad_time has_bad_time
ahead-is = counting ahead ∙ refl

-- a Datetime, and its seconds
pub record Counted : Type 0 where
  pub of : Datetime
  pub is : ℤ

abbrev pub seconds-of : List Counted
seconds-of =
    record { of = datetime (pos 2000) (month 0) (day 0) (at 23 0 0 (Some Utc)); is = pos 63113986800 }
    ∷ record { of = datetime (pos 2000) (month 0) (day 1) (at 0 30 0 (Some (Offset true 2 0))); is = pos 63113985000 }
    ∷ record { of = datetime (pos 0) (month 0) (day 0) (at 0 0 0 (Some Utc)); is = pos 0 }
    ∷ record { of = datetime (pos 0) (month 0) (day 0) (at 0 0 1 (Some Utc)); is = pos 1 }
    ∷ record { of = datetime (pos 0) (month 0) (day 0) (at 0 1 0 (Some Utc)); is = pos 60 }
    ∷ record { of = datetime (pos 0) (month 0) (day 0) (at 1 0 0 (Some Utc)); is = pos 3600 }
    ∷ record { of = datetime (pos 0) (month 0) (day 1) (at 0 0 0 (Some Utc)); is = pos 86400 }
    ∷ record { of = datetime (pos 0) (month 0) (day 0) (at 0 0 0 (Some (Offset true 0 0))); is = pos 0 }
    ∷ record { of = datetime (pos 0) (month 0) (day 0) (at 0 0 0 (Some (Offset false 0 0))); is = pos 0 }
    ∷ record { of = datetime (pos 0) (month 0) (day 0) (at 0 0 0 (Some (Offset true 1 0))); is = negsuc 3599 }
    ∷ record { of = datetime (pos 0) (month 0) (day 0) (at 0 0 0 (Some (Offset true 0 1))); is = negsuc 59 }
    ∷ record { of = datetime (pos 0) (month 0) (day 0) (at 0 0 0 (Some (Offset false 1 0))); is = pos 3600 }
    ∷ record { of = datetime (pos 0) (month 0) (day 0) (at 0 0 0 (Some (Offset false 0 1))); is = pos 60 }
    ∷ record { of = datetime (negsuc 0) (month 11) (day 30) (at 23 59 59 (Some Utc)); is = negsuc 0 }
    ∷ record { of = datetime (negsuc 9998) (month 0) (day 0) (at 0 0 0 (Some (Offset true 23 59))); is = negsuc 315537983939 }
    ∷ record { of = datetime (pos 9999) (month 11) (day 30) (at 23 59 59 (Some (Offset false 23 59))); is = pos 315569606339 }
    ∷ record { of = datetime (pos 1970) (month 0) (day 0) (at 0 0 0 (Some Utc)); is = pos 62167219200 }
    ∷ record { of = datetime (pos 2000) (month 1) (day 28) (at 12 34 56 (Some (Offset false 5 30))); is = pos 63119066696 }
    ∷ []

counted-each : (l : List Counted) → map (λ (e : Counted). instant_of e.of) l ≡ map (λ (e : Counted). counted-on e.of) l
counted-each [] = refl
counted-each (e ∷ l) = rw (counting e.of, counted-each l)

pub all-seconds : map (λ (e : Counted). instant_of e.of) seconds-of ≡ map (λ (e : Counted). Ok e.is) seconds-of
unfolding days_by seasoned asked asked_year asked_month year_in counted year_length total numbered period_from not_adate multiple leap_year february month_lengths month_length pick refused_instant seconds_at on_time on_day_and_time on_covered in_range seconds ahead_or_behind offset_seconds ahead_of utc_seconds offset_in zone_in clock_in clocks.day_beside_month clocks.bad_time has_bad_time
all-seconds = counted-each seconds-of ∙ refl

-- the second is before the first, by half an hour; the ported order, which looks at the stored days first, has it behind
pub across-midnight : (compared late ahead ≡ Ok (Some Greater)) × (ported.order late ahead ≡ Some Less)
unfolding compared both ported.order ported.number_order ported.in_turn ported.from_month ported.both ported.month_of ported.from_day ported.day_of pick
across-midnight = (rw (late_is, ahead-is), refl)

-- how some stand to each other
pub record Standing : Type 0 where
  pub first : Datetime
  pub second : Datetime
  pub says : Option Ordering

abbrev pub standings : List Standing
standings =
    record { first = datetime (pos 2000) (month 0) (day 0) (at 12 0 0 (Some Utc)); second = datetime (pos 2000) (month 0) (day 0) (at 14 0 0 (Some (Offset true 2 0))); says = Some Equal }
    ∷ record { first = datetime (pos 2000) (month 0) (day 0) (at 12 0 0 (Some Utc)); second = datetime (pos 2000) (month 0) (day 0) (at 12 0 0 (Some (Offset false 0 0))); says = Some Equal }
    ∷ record { first = datetime (pos 2000) (month 0) (day 0) (at 23 30 0 (Some (Offset false 1 0))); second = datetime (pos 2000) (month 0) (day 1) (at 0 30 0 (Some Utc)); says = Some Equal }
    ∷ record { first = datetime (pos 2000) (month 0) (day 0) (at 12 0 0 (Some Utc)); second = datetime (pos 2000) (month 0) (day 0) (at 12 0 1 (Some Utc)); says = Some Less }
    ∷ record { first = datetime (pos 2000) (month 0) (day 0) (at 12 0 1 (Some Utc)); second = datetime (pos 2000) (month 0) (day 0) (at 12 0 0 (Some Utc)); says = Some Greater }
    ∷ record { first = datetime (negsuc 0) (month 11) (day 30) (at 23 59 59 (Some Utc)); second = datetime (pos 0) (month 0) (day 0) (at 0 0 0 (Some Utc)); says = Some Less }
    ∷ record { first = datetime (pos 2000) (month 0) (day 1) (at 0 30 0 (Some (Offset true 2 0))); second = datetime (pos 2000) (month 0) (day 0) (at 23 0 0 (Some Utc)); says = Some Less }
    ∷ []

counted-both : (l : List Standing) → map (λ (e : Standing). compared e.first e.second) l ≡ map (λ (e : Standing). both (counted-on e.first) (counted-on e.second)) l
unfolding compared
counted-both [] = refl
counted-both (e ∷ l) = rw (counting e.first, counting e.second, counted-both l)

pub all-stand : map (λ (e : Standing). compared e.first e.second) standings ≡ map (λ (e : Standing). Ok e.says) standings
unfolding days_by seasoned asked asked_year asked_month year_in counted year_length total numbered period_from not_adate multiple leap_year february month_lengths month_length pick refused_instant seconds_at on_time on_day_and_time on_covered in_range seconds ahead_or_behind offset_seconds ahead_of utc_seconds offset_in zone_in clock_in clocks.day_beside_month clocks.bad_time has_bad_time both ported.number_order
all-stand = counted-both standings ∙ refl

-- a year, which is no instant
abbrev pub year-2000 : Datetime
year-2000 = datetime (pos 2000) None None None

-- a season, and one beside a month that is none and a time that no clock shows
abbrev pub spring : Datetime
spring = season_of (pos 2000) (Some Spring)

abbrev pub bad-winter : Datetime
bad-winter = record { year = pos 2000; month = month 12; day = day 0; time = at 24 0 0 None; season = Some Winter }

-- what is no instant, and why
pub record Example : Type 0 where
  pub of : Datetime
  pub why : Kind

abbrev pub examples : List Example
examples =
    record { of = year-2000; why = NoInstant }
    ∷ record { of = datetime (pos 2000) (month 0) (day 0) None; why = NoInstant }
    ∷ record { of = datetime (pos 2000) (month 0) (day 0) (at 10 20 30 None); why = NoInstant }
    ∷ record { of = datetime (pos 2000) (month 0) None (at 10 20 30 (Some Utc)); why = BadTime }
    ∷ record { of = datetime (pos 2000) (month 0) (day 0) (at 24 0 0 None); why = BadTime }
    ∷ record { of = datetime (pos 2000) (month 0) (day 0) (at 10 20 30 (Some (Offset false 24 0))); why = BadTime }
    ∷ record { of = datetime (pos 2000) (month 12) (day 0) (at 24 0 0 None); why = NotACalendarDate }
    ∷ record { of = datetime (pos 10000) (month 0) (day 0) (at 10 20 30 (Some Utc)); why = NotACalendarDate }
    ∷ record { of = spring; why = HasSeason }
    ∷ record { of = bad-winter; why = HasSeason }
    ∷ record { of = datetime (pos 2000) (month 0) None None; why = NoInstant }
    ∷ record { of = datetime (pos 2000) None None (at 10 20 30 (Some Utc)); why = BadTime }
    ∷ record { of = datetime (pos 2000) None (day 0) (at 10 20 30 (Some Utc)); why = NotACalendarDate }
    ∷ record { of = datetime (pos 2000) (month 0) (day 0) (at 10 60 0 (Some Utc)); why = BadTime }
    ∷ record { of = datetime (pos 2000) (month 0) (day 0) (at 10 0 60 (Some Utc)); why = BadTime }
    ∷ record { of = datetime (pos 2000) (month 0) (day 0) (at 10 20 30 (Some (Offset true 0 60))); why = BadTime }
    ∷ record { of = datetime (pos 2000) (month 1) (day 29) (at 24 0 0 None); why = NotACalendarDate }
    ∷ record { of = datetime (negsuc 9999) (month 0) (day 0) (at 10 20 30 (Some Utc)); why = NotACalendarDate }
    ∷ []

all-counted : (l : List Example) → map (λ (e : Example). instant_of e.of) l ≡ map (λ (e : Example). counted-on e.of) l
all-counted [] = refl
all-counted (e ∷ l) = rw (counting e.of, all-counted l)

pub all-refused : map (λ (e : Example). instant_of e.of) examples ≡ map (λ (e : Example). refused_instant e.why) examples
unfolding days_by seasoned asked asked_year asked_month year_in counted year_length total numbered period_from not_adate multiple leap_year february month_lengths month_length pick refused_instant seconds_at on_time on_day_and_time on_covered in_range seconds ahead_or_behind offset_seconds ahead_of utc_seconds offset_in zone_in clock_in clocks.day_beside_month clocks.bad_time has_bad_time
all-refused = all-counted examples ∙ refl

-- two that are not compared, and why
pub record Refusals : Type 0 where
  pub first : Datetime
  pub second : Datetime
  pub why : Kind

-- all about the first operand comes before the second
abbrev pub refusals : List Refusals
refusals =
    record { first = year-2000; second = datetime (pos 10000) None None None; why = NoInstant }
    ∷ record { first = spring; second = late; why = HasSeason }
    ∷ record { first = late; second = spring; why = HasSeason }
    ∷ record { first = spring; second = bad-winter; why = HasSeason }
    ∷ record { first = bad-winter; second = ahead; why = HasSeason }
    ∷ record { first = ahead; second = bad-winter; why = HasSeason }
    ∷ record { first = year-2000; second = spring; why = NoInstant }
    ∷ record { first = late; second = year-2000; why = NoInstant }
    ∷ record { first = late; second = datetime (pos 2000) (month 0) (day 0) (at 24 0 0 (Some Utc)); why = BadTime }
    ∷ record { first = datetime (pos 2000) (month 0) (day 0) (at 24 0 0 (Some Utc)); second = datetime (pos 10000) None None None; why = BadTime }
    ∷ record { first = datetime (pos 10000) None None None; second = spring; why = NotACalendarDate }
    ∷ record { first = late; second = datetime (pos 10000) None None None; why = NotACalendarDate }
    ∷ []

each-counted : (l : List Refusals) → map (λ (e : Refusals). compared e.first e.second) l ≡ map (λ (e : Refusals). both (counted-on e.first) (counted-on e.second)) l
unfolding compared
each-counted [] = refl
each-counted (e ∷ l) = rw (counting e.first, counting e.second, each-counted l)

pub none-compared : map (λ (e : Refusals). compared e.first e.second) refusals ≡ map (λ (e : Refusals). Err (refusal e.why (file_span 0 0))) refusals
unfolding days_by seasoned asked asked_year asked_month year_in counted year_length total numbered period_from not_adate multiple leap_year february month_lengths month_length pick refused_instant seconds_at on_time on_day_and_time on_covered in_range seconds ahead_or_behind offset_seconds ahead_of utc_seconds offset_in zone_in clock_in clocks.day_beside_month clocks.bad_time has_bad_time both
none-compared = each-counted refusals ∙ refl
