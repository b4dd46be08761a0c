-- The fields of a Date, as they are written and as they are read back.
use Rattle.std.specs.Prelude.{ℕ, Bool, true, false, List, [], ◌++◌, Result}
use Rattle.refusals.specs.declared.FileSpan.{FileSpan}
use Rattle.dates.specs.declared.Datetime.{Datetime}
use Rattle.dates.specs.declared.DateValue.{DateValue}
use Rattle.dates.specs.declared.DateValue.TheVariants.{At, After, Before, Between}
use Rattle.dates.specs.declared.Date.{Date}
use Rattle.refusals.specs.declared.Refusal.{Refusal}
use Rattle.chunks.specs.Lent.{Three, lent, absent, three}
use Rattle.roundtrip_laws.specs.Fields.{lines_of, values_of}
use Rattle.sixfields.specs.Six.{six_fields}

-- where in a file the values of an end's fields stand
pub record Places : Type 0 where
  -- that of the year
  pub year : FileSpan
  -- that of the month
  pub month : FileSpan
  -- that of the day
  pub day : FileSpan

-- a single date, or a range with both ends: the kinds whose fields are read back
abbrev pub is_closed : DateValue → Bool
is_closed (At a) = true
is_closed (After a) = false
is_closed (Before a) = false
is_closed (Between a b) = true

-- the lines of a Date, each with its value: those of its one end, or of both
abbrev pub value_lines_of : DateValue → List ℕ
value_lines_of (At a) = lines_of false a
value_lines_of (After a) = lines_of false a
value_lines_of (Before a) = lines_of false a
value_lines_of (Between a b) = lines_of false a ++ lines_of true b

-- the values of an end's lines as three fields, one Normal chunk each
abbrev pub values_at : Datetime → Places → Three
values_at a p = values_of a p.year.0 p.year.1 p.month.0 p.month.1 p.day.0 p.day.1

-- those of one end as six fields: there is no end year
abbrev pub one_back : Datetime → Places → Result Date Refusal
one_back a p = six_fields (values_at a p) false (three (lent [] []) absent absent)

-- those of both ends
abbrev pub both_back : Datetime → Places → Datetime → Places → Result Date Refusal
both_back a p b q = six_fields (values_at a p) true (values_at b q)

-- the values of a Date's lines, read as six fields
abbrev pub read_back : DateValue → Places → Places → Result Date Refusal
read_back (At a) p q = one_back a p
read_back (After a) p q = one_back a p
read_back (Before a) p q = one_back a p
read_back (Between a b) p q = both_back a p b q
