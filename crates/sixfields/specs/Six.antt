-- Six chunk lists as the fields year, month and day of a start and of an end.
use Rattle.std.specs.Prelude.{Bool, false, Result, Ok, Err, true}
use Rattle.chars.specs.Pick.{pick}
use Rattle.dates.specs.declared.Date.{Date}
use Rattle.refusals.specs.declared.Refusal.{Refusal}
use Rattle.dates.specs.declared.Datetime.{Datetime}
use Rattle.dates.specs.declared.DateValue.{DateValue}
use Rattle.dates.specs.declared.DateValue.TheVariants.{At, After, Before, Between}
use Rattle.dates.specs.Value.{date}
use Rattle.datefield.specs.Text.{is_blank}
use Rattle.chunks.specs.Lent.{Lent, Three, check_of, text_of}
use Rattle.reading_laws.specs.Fields.{three_fields}

-- whether the formatted text of a list is white space alone, or nothing
unfoldable pub blank : Lent → Bool
blank l = is_blank (text_of l)

-- a list without a fault is blank or not; else the fault is the answer
unfoldable pub judged : Result (Unit {0}) Refusal → Bool → Result Bool Refusal
judged (Ok tt) white = pick white (Ok false) (Ok true)
judged (Err e) white = Err e

-- the end year list is checked in full, and then judged by its text
unfoldable pub end_year_of : Lent → Result Bool Refusal
end_year_of year = judged (check_of year) (blank year)

-- the Datetime of a single date. Three fields give no other; of a range it is the first one
unfoldable pub single : DateValue → Datetime
single (At a) = a
single (After a) = a
single (Before a) = a
single (Between a b) = a

-- six fields have no mark
unfoldable pub unmarked : DateValue → Result Date Refusal
unmarked v = Ok (date v false false)

-- three fields that were read go on
unfoldable pub on_three : Result Date Refusal → (Datetime → Result Date Refusal) → Result Date Refusal
on_three (Ok d) go = go (single d.value)
on_three (Err e) go = Err e

-- a range from a start to the end that three fields give
unfoldable pub between : Datetime → Result Date Refusal → Result Date Refusal
between a end = on_three end λ b. unmarked (Between a b)

-- with an end year list that is blank the range is open; with any other it has an end
unfoldable pub on_end_year : Result Bool Refusal → Result Date Refusal → Result Date Refusal → Result Date Refusal
on_end_year (Ok false) opened closed = opened
on_end_year (Ok true) opened closed = closed
on_end_year (Err e) opened closed = Err e

-- a start that was read, and the end: without an end year list there is none, and without a text in it no other list is looked at
unfoldable pub with_end : Datetime → Bool → Three → Result Date Refusal
with_end a has_end end =
    pick has_end (on_end_year (end_year_of end.year) (unmarked (After a)) (between a (three_fields end))) (unmarked (At a))

-- the fields of a start, whether there is an end year list, and the fields of an end: the start is checked and read by the rules of three
-- fields before any list of the end is looked at
unfoldable pub six_fields : Three → Bool → Three → Result Date Refusal
six_fields start has_end end = on_three (three_fields start) λ a. with_end a has_end end
