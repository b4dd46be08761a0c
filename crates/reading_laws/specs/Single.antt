-- What three fields can give.
use Rattle.refusals.specs.declared.Refusal.{Refusal}
use Rattle.dates.specs.declared.Datetime.{Datetime}
use Rattle.dates.specs.Value.{from_datetime}
use Rattle.dates.specs.declared.Date.{Date}
use Rattle.std.specs.Prelude.{Result, Ok, Err}

-- a single date with no mark, or a refusal
pub data Single : Result Date Refusal → Type 0 where
  one : (a : Datetime) → Single (Ok (from_datetime a))
  none : {e : Refusal} → Single (Err e)
