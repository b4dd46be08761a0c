-- The written text of a day-XX range in a month under 31 days is refused by the ported reader: its second half has a day that the month
-- does not have.
-- Assumes nothing.
use mathlib.Core.Path.{◌≡◌, refl, ◌∙◌}
use mathlib.Core.List.{[], ◌∷◌, append_assoc}
use Prim.Native.Nat.{ℕ}
use native.Mathlib.Omega.{arith}
use lib.Dec.{lit<}
use lib.IntN.{pos}
use Rattle.chars.specs.Pick.{pick}
use Rattle.refusals.specs.declared.FileSpan.{FileSpan}
use Rattle.refusals.specs.declared.Kind.TheVariants.{DayOutOfRange}
use Rattle.refusals.specs.Refusal.{file_span, refusal}
use Rattle.refusals.specs.Offset.{text_refusal, saturating_add, offset, offset_second}
use Rattle.std.specs.Prelude.{None, Err}
use Rattle.dates.specs.declared.DateValue.{DateValue}
use Rattle.dates.specs.declared.Date.{Date}
use Rattle.dates.specs.Value.{datetime, month, day}
use Rattle.dates.proofs.Months.{some-day}
use Rattle.points.proofs.Back.{written, point-past}
use Rattle.chunks.specs.Chunks.{one_chunk}
use Rattle.datefield.specs.Value.{value, marked}
use Rattle.reading_laws.specs.Field.{parsed}
use Rattle.writer.specs.Texts.{value_text, date_text}
use Rattle.roundtrip_laws.specs.Domain.{InDomain, ShortMonthRange, days_xx}
use Rattle.roundtrip_laws.proofs.Bytes.{ValueText, between-text}
use Rattle.roundtrip_laws.proofs.Texts.{text-short, written-text}
use Rattle.roundtrip_laws.proofs.Whole.{second-refused}
use Rattle.roundtrip_laws.proofs.Marks.{parsed-marked}

short-known : {v : DateValue} → ShortMonthRange v → ValueText (value_text v)
unfolding value_text
short-known (days_xx y m h l n) =
    let a = datetime (pos y) (month m) (day 0) None in
    let b = datetime (pos y) (month m) (day 30) None in
    rw (text-short a h (l, lit< tt), text-short b h (l, lit< tt), append_assoc (written a) (47 ∷ []) (written b)) (between-text (written-text a) (written-text b))

-- the place is the second half's, all ten bytes of it; the slash stands behind ten bytes too
short-value : (span : FileSpan) {v : DateValue} → ShortMonthRange v → value span (value_text v) ≡ Err (offset_second (text_refusal DayOutOfRange 0 10) span.0 10)
unfolding value_text
short-value span (days_xx y m h l n) =
    let a = datetime (pos y) (month m) (day 0) None in
    let b = datetime (pos y) (month m) (day 30) None in
    rw (text-short a h (l, lit< tt), text-short b h (l, lit< tt), append_assoc (written a) (47 ∷ []) (written b))
    (second-refused span a b (record { year_in = h; parts_in = (l, some-day m (pos y) l); untimed = refl; unseasoned = refl }) (point-past (pos y) m 30 h l (lit< tt) (omega arith)))

-- such a range is not of the domain
pub short-out : {v : DateValue} → ShortMonthRange v → InDomain v → ⊥
short-out (days_xx y m h l n) w = omega (arith, w.1.parts_in.1)

module _ (d : Date) (r : ShortMonthRange d.value) where
  -- anywhere in a file: the place moves by the list's start and the slash
  pub short-refused : (start end : ℕ) → parsed (date_text d) (one_chunk (date_text d) start end) ≡ Err (offset_second (text_refusal DayOutOfRange 0 10) start 10)
  unfolding marked
  short-refused start end = parsed-marked d (short-known r) start end ∙ rw (short-value (file_span start end) r)

  -- at the file's start: the second half itself
  pub short-refused-first : (end : ℕ) → parsed (date_text d) (one_chunk (date_text d) 0 end) ≡ Err (refusal DayOutOfRange (file_span 11 21))
  unfolding offset_second offset saturating_add pick
  short-refused-first end = short-refused 0 end
