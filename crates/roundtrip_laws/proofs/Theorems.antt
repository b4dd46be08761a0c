-- What joins the readers and the writers, in one place; each theorem by the law that the other files prove for it. Assumes nothing.
use mathlib.Core.Path.{◌≡◌, sym, ap, ◌∙◌}
use mathlib.Core.Bool.{Bool, false}
use mathlib.Core.List.{List}
use mathlib.Core.Logic.{◌⊎◌}
use Prim.Native.Nat.{ℕ}
use Prim.Native.Char.{code}
use Rattle.refusals.specs.declared.Kind.TheVariants.{DayOutOfRange}
use Rattle.refusals.specs.Refusal.{file_span, refusal}
use Rattle.refusals.specs.Offset.{text_refusal, offset_second}
use Rattle.chunks.specs.Chunks.{one_chunk}
use Rattle.std.specs.Prelude.{Ok, Err}
use Rattle.chunks.specs.Check.{checked}
use Rattle.chunks.specs.Format.{formatted}
use Rattle.chunks.specs.Upper.{uppercase}
use Rattle.dates.specs.declared.Datetime.{Datetime}
use Rattle.dates.specs.declared.DateValue.{DateValue}
use Rattle.dates.specs.declared.Date.{Date}
use Rattle.dates.specs.Domain.{EndIn}
use Rattle.dates.specs.Value.{from_datetime}
use Rattle.datefield.specs.Text.{trimmed, unmarked}
use Rattle.datefield.specs.Value.{marked}
use Rattle.reading_laws.specs.Field.{parsed, strictly, parsed_strict}
use Rattle.reading_laws.proofs.Entries.{strict-clean}
use Rattle.writer.specs.Texts.{date_text}
use Rattle.writer.specs.Fields.{end_lines}
use Rattle.roundtrip_laws.specs.Domain.{InDomain, Untimed, ShortMonthRange, ShortText, days_upto}
use Rattle.roundtrip_laws.specs.Days.{DaysText}
use Rattle.roundtrip_laws.specs.Fields.{lines_of, read_back}
use Rattle.roundtrip_laws.specs.Letters.{NoByte, NoT, NoX}
use Rattle.roundtrip_laws.proofs.Whole.{value-back, known}
use Rattle.roundtrip_laws.proofs.Derived.{matched}
use Rattle.roundtrip_laws.proofs.Marks.{plain-list, same_text, parsed-marked}
use Rattle.roundtrip_laws.proofs.Three as three
use Rattle.roundtrip_laws.proofs.Accepted as accepted
use Rattle.roundtrip_laws.proofs.NoTime as untimed
use Rattle.roundtrip_laws.proofs.Days as days
use Rattle.roundtrip_laws.proofs.Short as short
use Rattle.roundtrip_laws.proofs.Agrees as both
use Rattle.roundtrip_laws.proofs.Strictly as strictly-read

-- A Date of the domain, from its text.
module _ (d : Date) (w : InDomain d.value) where
  -- the written text, as one Normal chunk anywhere in a file, read by the ported reader, gives the same Date, its kind and its marks included
  pub date-back : (start end : ℕ) → parsed (date_text d) (one_chunk (date_text d) start end) ≡ Ok d
  unfolding marked
  date-back start end = parsed-marked d (known d.value w) start end ∙ rw (value-back (file_span start end) d.value w)

  -- and so does the strict reader
  pub strict-back : (start end : ℕ) → parsed_strict (date_text d) (one_chunk (date_text d) start end) ≡ Ok d
  unfolding strictly
  strict-back start end =
      let b = date_text d in
      let t = one_chunk b start end in
      let k = known d.value w in
      sym (strict-clean b t (plain-list d k start end).clean (same_text d k false start end)) ∙ ap strictly (matched d w)

-- One end of such a Date, from its fields: the lines that are written for it have these values,
pub lines_are : (end : Bool) (d : Datetime) → EndIn d → end_lines end d ≡ lines_of end d
lines_are = three.lines_are

-- and the values, read as three fields from any places of a file, give the end
pub fields_back : (ys ye ms me ds de : ℕ) (d : Datetime) → EndIn d → read_back d ys ye ms me ds de ≡ Ok (from_datetime d)
fields_back = three.fields_back

-- What the ported reader accepts, of any chunk list: a Date of the domain, if it has no time, or a day-XX range in a month under 31 days
pub accepted-in : (b table : List ℕ) {d : Date} → parsed b table ≡ Ok d → Untimed d.value → InDomain d.value ⊎ ShortMonthRange d.value
accepted-in b table e t = accepted.accepted-in b table e t

-- A text with neither T nor t, if the ported reader accepts it, gives a Date without a time,
pub no-t : (b table : List ℕ) {d : Date} → parsed b table ≡ Ok d → NoT (formatted b table) → Untimed d.value
no-t b table e h = untimed.no-t b table e h

-- so one of the domain, or such a range,
pub no-t-in : (b table : List ℕ) {d : Date} → parsed b table ≡ Ok d → NoT (formatted b table) → InDomain d.value ⊎ ShortMonthRange d.value
no-t-in b table e h = accepted-in b table e (no-t b table e h)

-- and without an X or x in it no such range, but one of the domain
pub no-x-in : (b table : List ℕ) {d : Date} → parsed b table ≡ Ok d → NoT (formatted b table) → NoX (formatted b table) → InDomain d.value
no-x-in b table {d} e h k = accepted.in-domain d.value (accepted.no_x b table e k) (no-t b table e h)

-- Such a range is read from a text dddd-mm-XX alone, in upper case, trimmed and without its mark
pub from-days : (b table : List ℕ) {d : Date} → parsed b table ≡ Ok d → ShortMonthRange d.value → (y : ℕ) × (m : ℕ) × DaysText (unmarked (trimmed (uppercase (formatted b table)))) y m × (d.value ≡ days_upto y m 30)
from-days b table e k = days.from-days b table e k

-- Such a range is not of the domain,
pub short-out : {v : DateValue} → ShortMonthRange v → InDomain v → ⊥
short-out r w = short.short-out r w

-- and its written text is refused: anywhere in a file,
pub short-refused : (d : Date) → ShortMonthRange d.value → (start end : ℕ) → parsed (date_text d) (one_chunk (date_text d) start end) ≡ Err (offset_second (text_refusal DayOutOfRange 0 10) start 10)
short-refused = short.short-refused

-- and at the file's start at the second half itself
pub short-refused-first : (d : Date) → ShortMonthRange d.value → (end : ℕ) → parsed (date_text d) (one_chunk (date_text d) 0 end) ≡ Err (refusal DayOutOfRange (file_span 11 21))
short-refused-first = short.short-refused-first

-- For every chunk list: what the strict reader accepts, the ported reader accepts with the same Date, unless its text is a day-XX range in
-- a month under 31 days; then with the 31st as its end, and all else the same
pub agrees : (b table : List ℕ) {d : Date} → parsed_strict b table ≡ Ok d → (parsed b table ≡ Ok d) ⊎ ((e : Date) × ShortText (formatted b table) d e × (parsed b table ≡ Ok e))
agrees b table e = both.agrees b table e

-- in that case the Dates do differ
pub short-differ : {s : List ℕ} {d e : Date} → ShortText s d e → d ≡ e → ⊥
short-differ = both.short-differ

-- and of a list without a fault that has such a text each reader says its own
pub short-part : (b table : List ℕ) {d e : Date} → checked b table ≡ (Ok tt) → ShortText (formatted b table) d e → (parsed_strict b table ≡ Ok d) × (parsed b table ≡ Ok e)
short-part b table c t = both.short-part b table c t

-- What the strict reader accepts, of any chunk list, is a Date of the domain, if it has no time,
pub strict_in : (b table : List ℕ) {d : Date} → parsed_strict b table ≡ Ok d → Untimed d.value → InDomain d.value
strict_in b table e t = strictly-read.strict_in b table e t

-- which it has not if no T stands in the text,
pub strict-no-t : (b table : List ℕ) {d : Date} → parsed_strict b table ≡ Ok d → NoByte (code "T") (formatted b table) → Untimed d.value
strict-no-t b table e h = untimed.strict-no-t b table e h

-- so it survives writing and strict rereading
pub strict-again : (b table : List ℕ) {d : Date} → parsed_strict b table ≡ Ok d → Untimed d.value → (start end : ℕ) → parsed_strict (date_text d) (one_chunk (date_text d) start end) ≡ Ok d
strict-again b table {d} e t = strict-back d (strict_in b table e t)
