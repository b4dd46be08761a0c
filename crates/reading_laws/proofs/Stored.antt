-- What three fields give, at most: a year of four digits, a stored month below 99 and a stored day below 31. Assumes nothing.
use Prim.Native.Nat.{ℕ, ◌<◌}
use lib.IntN.{ℤ, nat_abs}
use Rattle.chars.proofs.Cases.{by-test}
use Rattle.refusals.specs.declared.FileSpan.{FileSpan}
use Rattle.refusals.specs.declared.Refusal.{Refusal}
use Rattle.dates.specs.declared.Date.{Date}
use Rattle.dates.specs.declared.Day.{Day}
use Rattle.dates.specs.declared.Month.{Month}
use Rattle.refusals.specs.declared.TextRefusal.{TextRefusal}
use Rattle.scanner.specs.declared.Cursor.{Cursor}
use Rattle.std.specs.Prelude.{Option, Some, None, Result, Ok, Err}
use Rattle.dates.specs.Value.{datetime, from_datetime}
use Rattle.fields.proofs.Named.{MonthBelow}
use Rattle.fields.proofs.Ranges.{YearIn, year, no_year, year_in, MonthIn, month_read, no_month, month_in, DayBelow, DayIn, day_read, no_day, inside-in, DayFieldIn, given, not_given, field_in}
use Rattle.reading_laws.specs.Field.{on_clean}
use Rattle.chunks.specs.Lent.{Optional, Three, text_of, place_of}
use Rattle.reading_laws.specs.Fields.{moved_year, year_of, on_month, inside_day, month_text, month_alone, field_day, month_and_day, parts_of, dated, on_year, read_fields, three_fields}

-- a month and a day, each absent or so small
data PartsIn : Result (Option Month × Option Day) Refusal → Type 0 where
  parts : {m : Option Month} {d : Option Day} → MonthBelow 99 m → DayBelow 31 d → PartsIn (Ok (m, d))
  no_parts : {e : Refusal} → PartsIn (Err e)

on-month : {r : Result (Option Month × Cursor) TextRefusal} {go : Option Month → ℕ → Result (Option Month × Option Day) Refusal} → MonthIn r → ((m : Option Month) (c : ℕ) → MonthBelow 99 m → PartsIn (go m c)) → PartsIn (on_month r go)
unfolding on_month
on-month (month_read {m} {c} h) g = g m c.0 h
on-month no_month g = no_parts

inside : (m : Option Month) {r : Result (Option Day) TextRefusal} → MonthBelow 99 m → DayIn r → PartsIn (inside_day m r)
unfolding inside_day
inside m h (day_read {d} k) = parts {m = m} {d = d} h k
inside m h no_day = no_parts

beside : (m : Option Month) {r : Result Day Refusal} → MonthBelow 99 m → DayFieldIn r → PartsIn (field_day m r)
unfolding field_day
beside m h (given {d} k) = parts {m = m} {d = Some d} h k
beside m h not_given = no_parts

parts_in : (m d : Optional) → PartsIn (parts_of m d)
unfolding parts_of month_and_day month_alone month_text
parts_in m d =
    let s = text_of m.list in
    by-test PartsIn m.present
    (λ _. by-test PartsIn d.present
    (λ _. on-month (month_in s) λ k _ h. beside k h (field_in (text_of d.list) (place_of d.list)))
    (λ _. on-month (month_in s) λ k c h. inside k h (inside-in s c)))
    (λ _. parts {m = None} {d = None} tt tt)

-- a single date of so small parts, or a refusal
pub data FieldsIn : Result Date Refusal → Type 0 where
  fields : {y : ℤ} {m : Option Month} {d : Option Day} → nat_abs y < 10000 → MonthBelow 99 m → DayBelow 31 d → FieldsIn (Ok (from_datetime (datetime y m d None)))
  no_fields : {e : Refusal} → FieldsIn (Err e)

dated-in : (y : ℤ) {p : Result (Option Month × Option Day) Refusal} → nat_abs y < 10000 → PartsIn p → FieldsIn (dated y p)
unfolding dated
dated-in y h (parts {m} {d} k l) = fields {y = y} {m = m} {d = d} h k l
dated-in y h no_parts = no_fields

on-year : (span : FileSpan) {r : Result ℤ TextRefusal} {go : ℤ → Result Date Refusal} → YearIn r → ((y : ℤ) → nat_abs y < 10000 → FieldsIn (go y)) → FieldsIn (on_year (moved_year span r) go)
unfolding on_year moved_year
on-year span (year {y} h) g = g y h
on-year span no_year g = no_fields

clean-in : (k : Result (Unit {0}) Refusal) {r : Result Date Refusal} → FieldsIn r → FieldsIn (on_clean k r)
unfolding on_clean
clean-in (Ok tt) h = h
clean-in (Err e) h = no_fields

-- of every three lists
pub three-in : (t : Three) → FieldsIn (three_fields t)
unfolding three_fields read_fields year_of
three-in t =
    clean-in _ (on-year (place_of t.year) (year_in (text_of t.year)) λ y h. dated-in y h (parts_in t.month t.day))
