-- What three fields give: a single date with no mark, or a refusal.
-- Assumes nothing.
use lib.IntN.{ℤ}
use Rattle.dates.specs.declared.Date.{Date}
use Rattle.dates.specs.declared.Day.{Day}
use Rattle.dates.specs.declared.Month.{Month}
use Rattle.refusals.specs.declared.Refusal.{Refusal}
use Rattle.std.specs.Prelude.{Option, None, Result, Ok, Err}
use Rattle.dates.specs.Value.{datetime}
use Rattle.reading_laws.specs.Field.{on_clean}
use Rattle.chunks.specs.Lent.{Three}
use Rattle.reading_laws.specs.Fields.{parts_of, dated, on_year, read_fields, three_fields}
use Rattle.reading_laws.specs.Single.{Single, one, none}

dated-single : (y : ℤ) (p : Result (Option Month × Option Day) Refusal) → Single (dated y p)
unfolding dated
dated-single y (Ok (m, k)) = one (datetime y m k None)
dated-single y (Err e) = none

year-single : (f : Result ℤ Refusal) {go : ℤ → Result Date Refusal} → ((y : ℤ) → Single (go y)) → Single (on_year f go)
unfolding on_year
year-single (Ok y) h = h y
year-single (Err e) h = none

clean-single : (k : Result (Unit {0}) Refusal) {r : Result Date Refusal} → Single r → Single (on_clean k r)
unfolding on_clean
clean-single (Ok tt) h = h
clean-single (Err e) h = none

-- three fields give no other
pub three-single : (t : Three) → Single (three_fields t)
unfolding three_fields read_fields
three-single t = clean-single _ (year-single _ (λ y. dated-single y (parts_of t.month t.day)))
