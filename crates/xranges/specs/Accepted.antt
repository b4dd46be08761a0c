-- The first and the last date of an X range that is read.
use Rattle.std.specs.Prelude.{ℕ, ◌<◌, pos, None}
use Rattle.dates.specs.declared.Datetime.{Datetime}
use Rattle.dates.specs.Value.{datetime, month as stored, day}

-- two years; January and December of a year; the first and the 31st of a month, whatever its length
pub data XRange : Datetime → Datetime → Type 0 where
  some_years : {y z : ℕ} → y < 10000 → z < 10000 → XRange (datetime (pos y) None None None) (datetime (pos z) None None None)
  all_months : {y : ℕ} → y < 10000 → XRange (datetime (pos y) (stored 0) None None) (datetime (pos y) (stored 11) None None)
  all_days : {y m : ℕ} → y < 10000 → m < 12 → XRange (datetime (pos y) (stored m) (day 0) None) (datetime (pos y) (stored m) (day 30) None)
