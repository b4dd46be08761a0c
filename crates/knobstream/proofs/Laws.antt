-- What a reader gives as a struct means the Date that was read: nothing is lost on the way out and back in. Assumes nothing.
use mathlib.Core.Path.{◌≡◌, refl}
use mathlib.Core.Bool.{Bool, true, false}
use Prim.Native.Nat.{ℕ}
use lib.Dec.{eqb}
use Rattle.chars.specs.Pick.{pick}
use Rattle.chars.proofs.Cases.{of_test}
use Rattle.dates.specs.declared.Day.{Day}
use Rattle.dates.specs.declared.Month.{Month}
use Rattle.dates.specs.declared.Time.{Time}
use Rattle.std.specs.Prelude.{Option, Some, None}
use Rattle.dates.specs.declared.Datetime.{Datetime}
use Rattle.dates.specs.declared.DateValue.{DateValue}
use Rattle.dates.specs.declared.DateValue.TheVariants.{At, After, Before, Between}
use Rattle.dates.specs.declared.Date.{Date}
use Rattle.dates.specs.Value.{is_season}
use Rattle.codes.specs.Words.{has_month, month_number, has_day, day_number, flag}
use Rattle.codes.specs.Unpacked.{season_of}
use Rattle.codes.proofs.Unpacking.{offset-back, season-back}
use Rattle.knobstream.specs.Plain.{datetime, date}
use Rattle.knobstream.specs.Back.{is_set, month_of, day_of, time_of, datetime_of, date_value, date_by, date_of}

flag-back : (b : Bool) → is_set (flag b) ≡ b
unfolding is_set
flag-back true = refl
flag-back false = refl

month-back : (m : Option Month) → month_of (has_month m) (month_number m) ≡ m
unfolding month_of is_set pick
month-back None = refl
month-back (Some m) = refl

day-back : (d : Option Day) → day_of (has_day d) (day_number d) ≡ d
unfolding day_of is_set pick
day-back None = refl
day-back (Some d) = refl

time-back : (d : Datetime) (t : Option Time) → d.time ≡ t → time_of (datetime d) ≡ t
unfolding time_of is_set pick
time-back d None e = rw e
time-back d (Some t) e = rw (e, offset-back t.offset)

-- a season is there exactly if its number is not 0
pub season-set : (n : ℕ) → is_season (season_of n) ≡ is_set n
unfolding season_of is_set pick
season-set n =
    of_test (eqb n 0) (λ x. rw x)
    (λ x. rw x (of_test (eqb n 21) (λ y. rw y) (λ y. rw y (of_test (eqb n 22) (λ z. rw z) (λ z. rw z (of_test (eqb n 23) (λ u. rw u) (λ u. rw u)))))))

pub datetime-back : (d : Datetime) → datetime_of (datetime d) ≡ d
unfolding datetime_of
datetime-back d = rw (month-back d.month, day-back d.day, time-back d d.time refl, season-back d.season)

value-back : (d : Date) (v : DateValue) → d.value ≡ v → date_value datetime_of (date d) ≡ v
unfolding date_value pick
value-back d (At a) e = rw (e, datetime-back a)
value-back d (After a) e = rw (e, datetime-back a)
value-back d (Before a) e = rw (e, datetime-back a)
value-back d (Between a b) e = rw (e, datetime-back a, datetime-back b)

pub date-back : (d : Date) → date_of (date d) ≡ d
unfolding date_by
date-back d = rw (value-back d d.value refl, flag-back d.uncertain, flag-back d.approximate)
