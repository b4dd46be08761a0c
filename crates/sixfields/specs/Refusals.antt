-- What six fields are refused for behind a start that was read.
use Rattle.std.specs.Prelude.{◌≡◌, Bool, true, Ok, Err, false}
use Rattle.refusals.specs.declared.Refusal.{Refusal}
use Rattle.dates.specs.declared.Date.{Date}
use Rattle.chunks.specs.Lent.{Three}
use Rattle.reading_laws.specs.Fields.{three_fields}
use Rattle.sixfields.specs.Six.{end_year_of}

-- it is the end that a refusal is of
pub record OfEnd (start : Three) (has_end : Bool) (end : Three) (e : Refusal) : Type 0 where
  -- the Date of the start,
  pub date : Date
  -- which was read
  pub start_read : three_fields start ≡ Ok date
  -- there is an end year list
  pub there : has_end ≡ true
  -- it is not blank: it has a fault, or a text
  pub not_blank : end_year_of end.year ≡ (Ok false) → ⊥
  -- and this is what the end is refused for as three fields
  pub end_refused : three_fields end ≡ Err e
