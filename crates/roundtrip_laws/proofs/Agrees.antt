-- What the strict reader accepts has the ported reader's Date, but for a day-XX range in a month under 31 days, where only the end's day
-- differs. By derivation: a point is read as what it says, a range by its halves, and a text with an X by one law of its own.
-- Assumes nothing.
use mathlib.Core.Path.{◌≡◌, refl, sym, ap, ◌∙◌, subst}
use mathlib.Core.Bool.{Bool}
use mathlib.Core.List.{List, [], ◌∷◌, ◌++◌}
use mathlib.Core.Logic.{◌⊎◌, inl, inr}
use Prim.Native.Nat.{ℕ, ◌+◌, ◌-◌}
use native.Mathlib.Omega.{arith}
use lib.Dec.{lit≤}
use lib.IntN.{pos}
use Rattle.refusals.specs.declared.FileSpan.{FileSpan}
use Rattle.dates.specs.declared.Day.{Day}
use Rattle.refusals.specs.declared.Refusal.{Refusal}
use Rattle.std.specs.Prelude.{Option, Some, None, Result, Ok}
use Rattle.chunks.specs.Chunks.{chunks_of, span_of}
use Rattle.chunks.specs.Check.{checked}
use Rattle.chunks.specs.Format.{formatted}
use Rattle.chunks.specs.Upper.{uppercase}
use Rattle.dates.specs.declared.DateValue.{DateValue}
use Rattle.dates.specs.declared.DateValue.TheVariants.{At, After, Before, Between}
use Rattle.dates.specs.declared.Date.{Date}
use Rattle.dates.specs.Calendar.{month_length}
use Rattle.dates.specs.Value.{date}
use Rattle.points.proofs.Back.{two, two_digits, three, four, four_digits}
use Rattle.datefield.specs.Value.{moved, on_half, value, marked, parse_text}
use Rattle.strict.specs.Digits.{digits}
use Rattle.strict.specs.Grammar.{field, last_day, Point, Unknown, dd_xx, ddd_x, dddd_XX, dddd_XX_XX, Value, alone, between, after, before, unknown, Mark, Text, text}
use Rattle.strict.specs.Grammar
use Rattle.reading_laws.specs.Field.{on_clean, parsed, parsed_strict}
use Rattle.roundtrip_laws.specs.Domain.{dddd_mm_XX, ShortText, short_text}
use Rattle.roundtrip_laws.specs.Ported.{PortedReads}
use Rattle.roundtrip_laws.proofs.Bytes.{Each, each_append, each-bytes, InValue, ValueText, value-digit, minus-in, alone-text, between-text, after_text, before_text, clear-upper}
use Rattle.roundtrip_laws.proofs.Bytes.Each.{none, more}
use Rattle.roundtrip_laws.proofs.Points.{point-read, point-text}
use Rattle.roundtrip_laws.proofs.Values.{alone-value, between-value, after-value, before-value}
use Rattle.roundtrip_laws.proofs.Trims.{text-clear, text-marked}
use Rattle.roundtrip_laws.proofs.Unknown.{days-said, unknown-value}
use Rattle.roundtrip_laws.proofs.StrictRead.{strict-accepts}

-- the bytes of a text with an X
x-in : InValue 0x58
x-in = record { low = lit≤ tt; high = lit≤ tt; unmarked = refl }

dash-xx : Each InValue (0x2D ∷ 0x58 ∷ 0x58 ∷ [])
dash-xx = more minus-in.in_value (more x-in (more x-in none))

two_in : (n : ℕ) → Each InValue (digits 2 n)
two_in n = each-bytes value-digit (two n) (two_digits n)

four-in : (n : ℕ) → Each InValue (digits 4 n)
four-in n = each-bytes value-digit (four n) (four_digits n)

pub unknown-text : {s : List ℕ} {v : DateValue} → Unknown s v → ValueText s
unknown-text (dd_xx n h) = record { in_value = each_append (two_in n) (more x-in (more x-in none)); some = omega arith; short = omega arith }
unknown-text (ddd_x n h) =
    record { in_value = each_append (each-bytes value-digit (three n) (four_digits n).1) (more x-in none); some = omega arith; short = omega arith }
unknown-text (dddd_XX n h) = record { in_value = each_append (four-in n) dash-xx; some = omega arith; short = omega arith }
unknown-text (dddd_XX_XX n h) = record { in_value = each_append (four-in n) (each_append dash-xx dash-xx); some = omega arith; short = omega arith }
unknown-text (Grammar.dddd_mm_XX n h (field m k)) =
    record { in_value = each_append (four-in n) (more minus-in.in_value (each_append (two_in (1 + m)) dash-xx)); some = omega arith; short = omega arith }

-- and of any value
pub value-text : {s : List ℕ} {v : DateValue} → Value Point s v → ValueText s
value-text (alone p) = alone-text (point-text p)
value-text (between p q) = between-text (point-text p) (point-text q)
value-text (after p) = after_text (point-text p)
value-text (before p) = before_text (point-text p)
value-text (unknown x) = unknown-text x

-- what the ported reader says of a derived text; of one with an X by that one law
module _ (span : FileSpan) where
  value_read : {s : List ℕ} {v : DateValue} → Value Point s v → PortedReads span s v
  unfolding moved on_half
  value_read (alone p) = inl (rw (alone-value span (point-text p), point-read p))
  value_read (between p q) = inl (rw (between-value span (point-text p) (point-text q), point-read p, point-read q))
  value_read (after p) = inl (rw (after-value span (point-text p), point-read p))
  value_read (before p) = inl (rw (before-value span (point-text p), point-read p))
  value_read (unknown x) = unknown-value span x

-- what both readers say of a text: the same Date, or, in a month under 31 days, two that differ in the end's day
abbrev pub Both : List ℕ → Date → Result Date Refusal → Type 0
Both s d r = (r ≡ Ok d) ⊎ ((e : Date) × ShortText s d e × (r ≡ Ok e))

module _ (span : FileSpan) {s t : List ℕ} {u a : Bool} (k : ValueText s) (m : Mark t u a) where
  as_read : {w : DateValue} → value span s ≡ Ok w → parse_text span (s ++ t) ≡ Ok (date w u a)
  unfolding marked
  as_read e = text-marked span k m ∙ rw e

  both_read : {v : DateValue} → PortedReads span s v → Both (s ++ t) (date v u a) (parse_text span (s ++ t))
  both_read (inl e) = inl (as_read e)
  both_read (inr (w, x, e)) = inr (date w u a, short_text x m, as_read e)

text-read : (span : FileSpan) {s : List ℕ} {d : Date} → Text s d → Both s d (parse_text span s)
text-read span (text v m) = both_read span (value-text v) m (value_read span v)

-- a derived text is its own upper case
text-upper : {s : List ℕ} {d : Date} → Text s d → uppercase s ≡ s
text-upper (text v m) = clear-upper (text-clear (value-text v) m)

-- a list without a fault is read as its text
clean-parsed : (b table : List ℕ) {d : Date} → checked b table ≡ (Ok tt) → Text (formatted b table) d → parsed b table ≡ parse_text (span_of (chunks_of table)) (formatted b table)
unfolding parsed on_clean
clean-parsed b table c t = rw (c, text-upper t)

-- for every chunk list: what the strict reader accepts, the ported reader accepts with the same Date, or with the 31st as its end
pub agrees : (b table : List ℕ) {d : Date} → parsed_strict b table ≡ Ok d → Both (formatted b table) d (parsed b table)
agrees b table {d} e =
    let s = formatted b table in
    let span = span_of (chunks_of table) in
    let p = (strict-accepts b table d).0 e in
    subst (Both s d) (sym (clean-parsed b table p.0 p.1)) (text-read span p.1)

-- the two Dates of such a text are not the same
day_of : Option Day → ℕ
day_of None = 0
day_of (Some d) = d.0

end_day : DateValue → ℕ
end_day (At a) = 0
end_day (After a) = 0
end_day (Before a) = 0
end_day (Between a b) = day_of b.day

pub short-differ : {s : List ℕ} {d e : Date} → ShortText s d e → d ≡ e → ⊥
unfolding end_day day_of
short-differ (short_text (dddd_mm_XX {m = m} n h f k) mark) e = let z : month_length m (pos n) - 1 ≡ 30 = ap (λ (d : Date). end_day d.value) e in omega arith

-- of such a text each reader says its own Date
short-derived : {s : List ℕ} {d e : Date} → ShortText s d e → Text s d
unfolding last_day
short-derived (short_text (dddd_mm_XX n h f k) mark) = text (unknown (Grammar.dddd_mm_XX n h f)) mark

short-read : (span : FileSpan) {s : List ℕ} {d e : Date} → ShortText s d e → parse_text span s ≡ Ok e
short-read span (short_text (dddd_mm_XX n h (field m l) k) mark) =
    as_read span (unknown-text (Grammar.dddd_mm_XX n h (field m l))) mark (days-said span n m h l)

-- a list without a fault whose text is such a one is accepted by both readers, by each with its own Date
pub short-part : (b table : List ℕ) {d e : Date} → checked b table ≡ (Ok tt) → ShortText (formatted b table) d e → (parsed_strict b table ≡ Ok d) × (parsed b table ≡ Ok e)
short-part b table {d} c t =
    let g = short-derived t in
    ((strict-accepts b table d).1 (c, g), clean-parsed b table c g ∙ short-read (span_of (chunks_of table)) t)
