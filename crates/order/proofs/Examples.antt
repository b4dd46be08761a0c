-- How some Datetimes stand to each other, and some that are not compared: one theorem over one list each. Assumes nothing.
use mathlib.Core.Path.{◌≡◌, refl}
use mathlib.Core.Bool.{true, false}
use mathlib.Core.List.{List, [], ◌∷◌, map}
use lib.IntN.{pos, negsuc}
use Rattle.chars.specs.Pick.{pick}
use Rattle.refusals.specs.declared.Kind.TheVariants.{HasSeason}
use Rattle.refusals.specs.Refusal.{file_span, refusal}
use Rattle.dates.specs.declared.Season.TheVariants.{Autumn, Spring, Summer, Winter}
use Rattle.std.specs.Prelude.{Option, Some, None, Ok, Err}
use Rattle.std.specs.declared.cmp.Ordering.{Ordering}
use Rattle.std.specs.declared.cmp.Ordering.TheVariants.{Equal, Greater, Less}
use Rattle.dates.specs.declared.TimeOffset.TheVariants.{Utc, Offset}
use Rattle.dates.specs.declared.Datetime.{Datetime}
use Rattle.dates.specs.Value.{month, day, datetime, season_of}
use Rattle.dates.specs.Time.{time, seconds, ahead_or_behind, offset_seconds, ahead_of, utc_seconds}
use Rattle.order.specs.Order.{number_order, in_turn, both, month_of, day_of, alike, time_order, from_time, from_day, from_month, order, seasoned, partial_cmp}

-- two, and how the first stands to the second
pub record Example : Type 0 where
  pub first : Datetime
  pub second : Datetime
  pub says : Option Ordering

abbrev pub examples : List Example
examples =
    record { first = datetime (pos 1999) None None None; second = datetime (pos 2000) None None None; says = Some Less }
    ∷ record { first = datetime (pos 2000) None None None; second = datetime (pos 2000) None None None; says = Some Equal }
    ∷ record { first = datetime (pos 2000) None None None; second = datetime (pos 1999) None None None; says = Some Greater }
    ∷ record { first = datetime (negsuc 4) None None None; second = datetime (pos 3) None None None; says = Some Less }
    ∷ record { first = datetime (negsuc 2) None None None; second = datetime (negsuc 4) None None None; says = Some Greater }
    ∷ record { first = datetime (pos 1999) (month 11) (day 30) None; second = datetime (pos 2000) None None None; says = Some Less }
    ∷ record { first = datetime (pos 2000) None None None; second = datetime (pos 2000) (month 0) None None; says = None }
    ∷ record { first = datetime (pos 2000) (month 0) None None; second = datetime (pos 2000) None None None; says = None }
    ∷ record { first = datetime (pos 2000) (month 0) None None; second = datetime (pos 2000) (month 1) None None; says = Some Less }
    ∷ record { first = datetime (pos 2000) (month 1) None None; second = datetime (pos 2000) (month 0) None None; says = Some Greater }
    ∷ record { first = datetime (pos 2000) (month 1) None None; second = datetime (pos 2000) (month 1) None None; says = Some Equal }
    ∷ record { first = datetime (pos 2000) (month 0) (day 30) None; second = datetime (pos 2000) (month 1) None None; says = Some Less }
    ∷ record { first = datetime (pos 2000) (month 1) None None; second = datetime (pos 2000) (month 1) (day 0) None; says = None }
    ∷ record { first = datetime (pos 2000) (month 1) (day 0) None; second = datetime (pos 2000) (month 1) None None; says = None }
    ∷ record { first = datetime (pos 2000) (month 1) (day 0) None; second = datetime (pos 2000) (month 1) (day 1) None; says = Some Less }
    ∷ record { first = datetime (pos 2000) (month 1) (day 1) None; second = datetime (pos 2000) (month 1) (day 0) None; says = Some Greater }
    ∷ record { first = datetime (pos 2000) (month 1) (day 1) None; second = datetime (pos 2000) (month 1) (day 1) None; says = Some Equal }
    ∷ record { first = datetime (pos 2000) None (day 3) None; second = datetime (pos 2000) None (day 9) None; says = Some Equal }
    ∷ record { first = datetime (pos 2000) (month 255) (day 0) None; second = datetime (pos 2000) (month 254) (day 0) None; says = Some Greater }
    ∷ record { first = datetime (pos 2000) (month 1) (day 1) None; second = datetime (pos 2000) (month 1) (day 1) (Some (time 0 0 0 None)); says = None }
    ∷ record { first = datetime (pos 2000) (month 1) (day 1) (Some (time 0 0 0 None)); second = datetime (pos 2000) (month 1) (day 1) None; says = None }
    ∷ record { first = datetime (pos 2000) (month 1) (day 1) (Some (time 0 0 0 None)); second = datetime (pos 2000) (month 1) (day 2) None; says = Some Less }
    ∷ record { first = datetime (pos 2000) (month 1) (day 1) (Some (time 1 0 0 None)); second = datetime (pos 2000) (month 1) (day 1) (Some (time 1 0 1 None)); says = Some Less }
    ∷ record { first = datetime (pos 2000) (month 1) (day 1) (Some (time 1 1 0 None)); second = datetime (pos 2000) (month 1) (day 1) (Some (time 1 0 59 None)); says = Some Greater }
    ∷ record { first = datetime (pos 2000) (month 1) (day 1) (Some (time 1 0 0 None)); second = datetime (pos 2000) (month 1) (day 1) (Some (time 1 0 0 None)); says = Some Equal }
    ∷ record { first = datetime (pos 2000) (month 1) (day 1) (Some (time 1 0 0 None)); second = datetime (pos 2000) (month 1) (day 1) (Some (time 1 0 0 (Some Utc))); says = None }
    ∷ record { first = datetime (pos 2000) (month 1) (day 1) (Some (time 1 0 0 (Some (Offset true 0 0)))); second = datetime (pos 2000) (month 1) (day 1) (Some (time 1 0 0 None)); says = None }
    ∷ record { first = datetime (pos 2000) (month 1) (day 1) (Some (time 1 0 0 (Some Utc))); second = datetime (pos 2000) (month 1) (day 1) (Some (time 3 0 0 (Some (Offset true 2 0)))); says = Some Equal }
    ∷ record { first = datetime (pos 2000) (month 1) (day 1) (Some (time 1 0 0 (Some Utc))); second = datetime (pos 2000) (month 1) (day 1) (Some (time 1 0 0 (Some (Offset false 0 1)))); says = Some Less }
    ∷ record { first = datetime (pos 2000) (month 1) (day 1) (Some (time 1 0 0 (Some (Offset false 2 0)))); second = datetime (pos 2000) (month 1) (day 1) (Some (time 2 59 59 (Some Utc))); says = Some Greater }
    ∷ record { first = datetime (pos 2000) (month 0) (day 0) (Some (time 23 0 0 (Some Utc))); second = datetime (pos 2000) (month 0) (day 1) (Some (time 0 30 0 (Some (Offset true 2 0)))); says = Some Less }
    ∷ []

pub all-examples : map (λ (e : Example). partial_cmp e.first e.second) examples ≡ map (λ (e : Example). Ok e.says) examples
unfolding partial_cmp order number_order in_turn both month_of day_of alike time_order from_time from_day from_month seconds ahead_or_behind offset_seconds ahead_of utc_seconds pick
all-examples = refl

-- two of which one has a season
pub record Season : Type 0 where
  pub first : Datetime
  pub second : Datetime

abbrev pub seasons : List Season
seasons =
    record { first = season_of (pos 2000) (Some Spring); second = datetime (pos 2000) None None None }
    ∷ record { first = datetime (pos 2000) None None None; second = season_of (pos 1999) (Some Winter) }
    ∷ record { first = season_of (pos 2000) (Some Summer); second = season_of (pos 2000) (Some Autumn) }
    ∷ []

pub none-compared : map (λ (e : Season). partial_cmp e.first e.second) seasons ≡ map (λ (e : Season). Err (record { kind = HasSeason; place = file_span 0 0 })) seasons
unfolding partial_cmp seasoned refusal pick
none-compared = refl
