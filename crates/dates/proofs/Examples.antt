-- Leap years, month lengths, times in seconds and times that are bad: some of each. Assumes nothing.
use mathlib.Core.Path.{◌≡◌, refl}
use mathlib.Core.Bool.{Bool, true, false}
use mathlib.Core.List.{List, [], ◌∷◌, map}
use Prim.Native.Nat.{ℕ}
use lib.IntN.{ℤ, pos, negsuc}
use Rattle.chars.specs.Pick.{pick}
use Rattle.dates.specs.declared.Day.{Day}
use Rattle.dates.specs.declared.Month.{Month}
use Rattle.dates.specs.declared.Season.TheVariants.{Autumn, Spring, Summer, Winter}
use Rattle.dates.specs.declared.TimeOffset.{TimeOffset}
use Rattle.std.specs.Prelude.{Option, Some, None}
use Rattle.dates.specs.declared.TimeOffset.TheVariants.{Utc, Offset}
use Rattle.dates.specs.declared.Time.{Time}
use Rattle.dates.specs.declared.DateValue.TheVariants.{At, After, Before, Between}
use Rattle.dates.specs.Calendar.{multiple, leap_year, february, month_lengths, month_length}
use Rattle.dates.specs.Clocks.{offset_in, zone_in, clock_in, day_beside_month, bad_time, has_bad_time}
use Rattle.dates.specs.Time.{time, in_range, time_of, seconds, ahead_or_behind, offset_seconds, ahead_of, utc_seconds}
use Rattle.dates.specs.Value.{month, day, datetime, season_of, season_number, any_season}

-- a year, and whether it is a leap year
pub record Leap : Type 0 where
  pub year : ℤ
  pub is : Bool

abbrev pub years : List Leap
years =
    record { year = pos 0; is = true }
    ∷ record { year = pos 1; is = false }
    ∷ record { year = pos 2; is = false }
    ∷ record { year = pos 3; is = false }
    ∷ record { year = pos 4; is = true }
    ∷ record { year = pos 96; is = true }
    ∷ record { year = pos 99; is = false }
    ∷ record { year = pos 100; is = false }
    ∷ record { year = pos 104; is = true }
    ∷ record { year = pos 200; is = false }
    ∷ record { year = pos 300; is = false }
    ∷ record { year = pos 400; is = true }
    ∷ record { year = pos 1900; is = false }
    ∷ record { year = pos 2000; is = true }
    ∷ record { year = pos 2023; is = false }
    ∷ record { year = pos 2024; is = true }
    ∷ record { year = pos 2100; is = false }
    ∷ record { year = pos 9999; is = false }
    ∷ record { year = pos 2147483647; is = false }
    ∷ record { year = negsuc 0; is = false }
    ∷ record { year = negsuc 1; is = false }
    ∷ record { year = negsuc 2; is = false }
    ∷ record { year = negsuc 3; is = true }
    ∷ record { year = negsuc 99; is = false }
    ∷ record { year = negsuc 199; is = false }
    ∷ record { year = negsuc 299; is = false }
    ∷ record { year = negsuc 399; is = true }
    ∷ record { year = negsuc 2147483647; is = true }
    ∷ []

pub leap-years : map (λ (e : Leap). leap_year e.year) years ≡ map (λ (e : Leap). e.is) years
unfolding leap_year multiple
leap-years = refl

-- the months of a year that is none, and of one that is, and what is no month
abbrev pub numbers : List ℕ
numbers = 0 ∷ 1 ∷ 2 ∷ 3 ∷ 4 ∷ 5 ∷ 6 ∷ 7 ∷ 8 ∷ 9 ∷ 10 ∷ 11 ∷ 12 ∷ 255 ∷ []

pub common-year : map (λ (m : ℕ). month_length m (pos 2023)) numbers ≡ 31 ∷ 28 ∷ 31 ∷ 30 ∷ 31 ∷ 30 ∷ 31 ∷ 31 ∷ 30 ∷ 31 ∷ 30 ∷ 31 ∷ 0 ∷ 0 ∷ []
unfolding month_length month_lengths february leap_year multiple
common-year = refl

pub leap-year : map (λ (m : ℕ). month_length m (negsuc 3)) numbers ≡ 31 ∷ 29 ∷ 31 ∷ 30 ∷ 31 ∷ 30 ∷ 31 ∷ 31 ∷ 30 ∷ 31 ∷ 30 ∷ 31 ∷ 0 ∷ 0 ∷ []
unfolding month_length month_lengths february leap_year multiple
leap-year = refl

-- an offset of hours and minutes ahead of UTC, or behind
abbrev pub shifted : Bool → ℕ → ℕ → Option TimeOffset
shifted positive h m = Some (Offset positive h m)

-- a time, and its seconds in UTC
pub record Seconds : Type 0 where
  pub of : Time
  pub are : ℤ

abbrev pub times : List Seconds
times =
    record { of = time 0 0 0 None; are = pos 0 }
    ∷ record { of = time 0 0 1 None; are = pos 1 }
    ∷ record { of = time 0 1 0 None; are = pos 60 }
    ∷ record { of = time 1 0 0 None; are = pos 3600 }
    ∷ record { of = time 23 59 59 (Some Utc); are = pos 86399 }
    ∷ record { of = time 0 0 0 (shifted true 0 0); are = pos 0 }
    ∷ record { of = time 0 0 0 (shifted false 0 0); are = pos 0 }
    ∷ record { of = time 12 0 0 (shifted true 2 30); are = pos 34200 }
    ∷ record { of = time 12 0 0 (shifted false 2 30); are = pos 52200 }
    ∷ record { of = time 0 0 0 (shifted true 23 59); are = negsuc 86339 }
    ∷ record { of = time 23 59 59 (shifted false 23 59); are = pos 172739 }
    ∷ record { of = time 255 255 255 (shifted false 255 255); are = pos 1866855 }
    ∷ []

pub all-seconds : map (λ (e : Seconds). utc_seconds e.of) times ≡ map (λ (e : Seconds). e.are) times
unfolding utc_seconds ahead_of offset_seconds ahead_or_behind seconds
all-seconds = refl

-- which times are made; the offset is not looked at
pub all_made : time_of 23 59 59 None ∷ time_of 0 0 0 (shifted true 24 60) ∷ time_of 24 0 0 None ∷ time_of 0 60 0 None ∷ time_of 23 59 60 None ∷ []
    ≡ Some (time 23 59 59 None) ∷ Some (time 0 0 0 (shifted true 24 60)) ∷ None ∷ None ∷ None ∷ []
unfolding time_of in_range pick
all_made = refl

-- a month, a day and a time, and whether the time is bad
pub record Clocked : Type 0 where
  pub month : Option Month
  pub day : Option Day
  pub time : Option Time
  pub bad : Bool

abbrev pub clocks : List Clocked
clocks =
    record { month = None; day = None; time = None; bad = false }
    ∷ record { month = None; day = None; time = Some (time 0 0 0 None); bad = true }
    ∷ record { month = None; day = day 0; time = Some (time 0 0 0 None); bad = true }
    ∷ record { month = month 0; day = None; time = Some (time 0 0 0 None); bad = true }
    ∷ record { month = month 0; day = day 0; time = Some (time 0 0 0 None); bad = false }
    ∷ record { month = month 0; day = day 0; time = Some (time 23 59 59 (Some Utc)); bad = false }
    ∷ record { month = month 0; day = day 0; time = Some (time 24 0 0 None); bad = true }
    ∷ record { month = month 0; day = day 0; time = Some (time 0 60 0 None); bad = true }
    ∷ record { month = month 0; day = day 0; time = Some (time 0 0 60 None); bad = true }
    ∷ record { month = month 0; day = day 0; time = Some (time 0 0 0 (shifted true 23 59)); bad = false }
    ∷ record { month = month 0; day = day 0; time = Some (time 0 0 0 (shifted false 23 59)); bad = false }
    ∷ record { month = month 0; day = day 0; time = Some (time 0 0 0 (shifted true 24 0)); bad = true }
    ∷ record { month = month 0; day = day 0; time = Some (time 0 0 0 (shifted false 0 60)); bad = true }
    ∷ record { month = month 255; day = day 255; time = Some (time 0 0 0 None); bad = false }
    ∷ []

pub all-clocks : map (λ (e : Clocked). has_bad_time (datetime (pos 2000) e.month e.day e.time)) clocks ≡ map (λ (e : Clocked). e.bad) clocks
unfolding has_bad_time bad_time day_beside_month clock_in zone_in offset_in in_range
all-clocks = refl

-- the numbers of the seasons
pub all-seasons : season_number None ∷ season_number (Some Spring) ∷ season_number (Some Summer) ∷ season_number (Some Autumn) ∷ season_number (Some Winter) ∷ [] ≡ 0 ∷ 21 ∷ 22 ∷ 23 ∷ 24 ∷ []
all-seasons = refl

-- an end with a season is found in each place
pub seasons-found : any_season (At (season_of (pos 2000) (Some Spring))) ∷ any_season (After (season_of (pos 2000) (Some Summer))) ∷ any_season (Before (season_of (pos 2000) (Some Autumn)))
    ∷ any_season (Between (season_of (pos 2000) (Some Winter)) (season_of (pos 2000) None)) ∷ any_season (Between (season_of (pos 2000) None) (season_of (pos 2000) (Some Spring)))
    ∷ any_season (Between (season_of (pos 2000) None) (season_of (pos 2000) None)) ∷ []
    ≡ true ∷ true ∷ true ∷ true ∷ true ∷ false ∷ []
seasons-found = refl
