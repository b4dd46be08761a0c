-- What a reader accepts, whatever its time, has at every end a year of four digits and a month and a day of two, so that its text is short.
-- Assumes nothing.
use mathlib.Core.Path.{◌≡◌, refl, ap, subst}
use mathlib.Core.List.{List}
use mathlib.Core.Logic.{⊎_elim}
use Prim.Native.Nat.{ℕ, ◌≤◌}
use native.Mathlib.Omega.{arith}
use lib.IntN.{ℤ}
use lib.ListN.{length}
use Rattle.dates.specs.declared.Day.{Day}
use Rattle.dates.specs.declared.Month.{Month}
use Rattle.std.specs.Prelude.{Option, Some, None, Ok}
use Rattle.dates.specs.declared.Datetime.{Datetime}
use Rattle.dates.specs.declared.DateValue.{DateValue}
use Rattle.dates.specs.declared.Date.{Date}
use Rattle.dates.specs.Domain.{PartsIn}
use Rattle.dates.specs.Value.{is_season}
use Rattle.dates.proofs.Lengths.{length_most}
use Rattle.dates.proofs.Ends.{each-end}
use Rattle.points.specs.Accepted.{Dated}
use Rattle.fields.proofs.Named.{MonthBelow}
use Rattle.fields.proofs.Ranges.{DayBelow}
use Rattle.reading_laws.specs.Field.{parsed, parsed_strict, parsed_level_one}
use Rattle.chunks.specs.Lent.{Three}
use Rattle.reading_laws.specs.Fields.{three_fields}
use Rattle.reading_laws.proofs.Stored.{FieldsIn, fields, three-in}
use Rattle.writer.specs.Level.{level_text}
use Rattle.writer.specs.Sizes.{MonthUnder, DayUnder, Narrow, NarrowEnds, LevelNarrow, narrow, seasoned, long}
use Rattle.writer.proofs.Levels.{level-short}
use Rattle.roundtrip_laws.specs.Domain.{ShortMonthRange, days_xx, AllDated}
use Rattle.roundtrip_laws.proofs.Accepted.{accepted-known}
use Rattle.roundtrip_laws.specs.Level.{Given, on_calendar, in_season, long_year}
use Rattle.roundtrip_laws.proofs.Strictly.{strict-dated}
use Rattle.roundtrip_laws.proofs.LevelRead.{level-given}

-- a date of the calendar
parts-narrow : (y : ℤ) (m : Option Month) (d : Option Day) → PartsIn y m d → MonthUnder 99 m × DayUnder 99 d
parts-narrow y None None p = (tt, tt)
parts-narrow y None (Some d) p = absurd p
parts-narrow y (Some m) None p = (omega arith, tt)
parts-narrow y (Some m) (Some d) p = (omega (arith, p.0), omega (arith, p.1, length_most m.0 y))

dated-narrow : (d : Datetime) → Dated d → Narrow d
dated-narrow d w =
    let p = parts-narrow d.year d.month d.day w.parts_in in
    record { year_in = w.year_in; month_in = p.0; day_in = p.1 }

all-narrow : (v : DateValue) → AllDated v → NarrowEnds v
all-narrow v w = each-end dated-narrow v w

-- a day-XX range in a month under 31 days
short-narrow : {v : DateValue} → ShortMonthRange v → NarrowEnds v
short-narrow (days_xx y m h l _) =
    (record { year_in = h; month_in = omega arith; day_in = omega arith }, record { year_in = h; month_in = omega arith; day_in = omega arith })

-- what three fields give
day-narrow : (d : Option Day) → DayBelow 31 d → DayUnder 99 d
day-narrow None h = tt
day-narrow (Some d) h = omega arith

month-narrow : (m : Option Month) → MonthBelow 99 m → MonthUnder 99 m
month-narrow None h = tt
month-narrow (Some m) h = h

fields-narrow : {d : Date} → FieldsIn (Ok d) → NarrowEnds d.value
fields-narrow (fields {m} {d} h k l) = record { year_in = h; month_in = month-narrow m k; day_in = day-narrow d l }

-- accepted by the ported reader
pub parsed-narrow : (b table : List ℕ) {d : Date} → parsed b table ≡ Ok d → NarrowEnds d.value
parsed-narrow b table {d} e = ⊎_elim (λ w. all-narrow d.value w) (λ r. short-narrow r) (accepted-known b table e)

-- by the strict reader
pub strict-narrow : (b table : List ℕ) {d : Date} → parsed_strict b table ≡ Ok d → NarrowEnds d.value
strict-narrow b table {d} e = all-narrow d.value (strict-dated b table e)

-- by the reader of level one: what is written of it is as short
given-narrow : (a : Datetime) → Given a → LevelNarrow a
given-narrow a (on_calendar w) = narrow (ap is_season w.unseasoned) (dated-narrow a w)
given-narrow a (in_season h e) = seasoned e h
given-narrow a (long_year h k) = long refl refl k

pub level-narrow : (b table : List ℕ) {d : Date} → parsed_level_one b table ≡ Ok d → length (level_text d) ≤ 24
level-narrow b table {d} e = level-short d (each-end given-narrow d.value (level-given b table e))

-- as three fields
pub three-narrow : (t : Three) {d : Date} → three_fields t ≡ Ok d → NarrowEnds d.value
three-narrow t e = fields-narrow (subst FieldsIn e (three-in t))
