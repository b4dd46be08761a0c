-- The numbers of what a reader answers are of their types: in Rattle, and so in the words.
use Rattle.std.specs.Prelude.{ℕ, ◌<◌, List, [], ◌∷◌, Result, Ok, Err}
use Rattle.std.specs.Int.Signed.{mag}
use Rattle.dates.specs.declared.Time.{Time}
use Rattle.dates.specs.declared.Datetime.{Datetime}
use Rattle.dates.specs.Ends.{EachEnd}
use Rattle.dates.specs.declared.Date.{Date}
use Rattle.refusals.specs.declared.Refusal.{Refusal}
use Rattle.codes.specs.Words.{month_number, day_number, clock_of, shift_of, hours_of, minutes_of}

-- numbers that are bytes
abbrev pub Bytes : List ℕ → Type 0
Bytes [] = Unit {0}
Bytes (n ∷ l) = (n < 256) × Bytes l

-- those of a time that are stored in a byte
abbrev pub stored_time : Time → List ℕ
stored_time t = t.hour ∷ t.minute ∷ t.second ∷ hours_of (shift_of t.offset) ∷ minutes_of (shift_of t.offset) ∷ []

-- those of a Datetime
abbrev pub stored : Datetime → List ℕ
stored d = month_number d.month ∷ day_number d.day ∷ stored_time (clock_of d.time)

-- the numbers of a Datetime
pub record DatetimeTyped (d : Datetime) : Type 0 where
  -- an i32: from -2147483648 to 2147483647
  pub year_typed : mag d.year < 2147483648
  -- a u8 each
  pub bytes_typed : Bytes (stored d)

-- what a reader answers: those of each end, or a place of two u64
abbrev pub Typed : Result Date Refusal → Type 0
Typed (Ok d) = EachEnd DatetimeTyped d.value
Typed (Err e) = (e.place.0 < 18446744073709551616) × (e.place.1 < 18446744073709551616)
