-- What the ported reader accepts is a date of the calendar at each end, whatever its time, or a day-XX range in a month under 31 days. So
-- without a time it is a Date whose text is read back, or such a range.
-- Assumes nothing.
use mathlib.Core.Path.{◌≡◌, refl, subst}
use mathlib.Core.Bool.{Bool}
use mathlib.Core.List.{List}
use mathlib.Core.Logic.{◌⊎◌, ⊎_elim, inl, inr}
use Prim.Native.Nat.{ℕ, ◌+◌, ◌-◌, ◌≤◌, ◌<◌}
use native.Mathlib.Omega.{arith}
use native.Mathlib.Decide.{dec_lt}
use lib.Dec.{ltb, lit<, lit≤}
use lib.ListN.{length, take, drop}
use lib.IntN.{pos}
use Rattle.chars.proofs.Cases.{by-test}
use Rattle.chars.specs.Pick.{pick}
use Rattle.refusals.specs.Offset.{offset}
use Rattle.refusals.specs.declared.FileSpan.{FileSpan}
use Rattle.refusals.specs.declared.Refusal.{Refusal}
use Rattle.refusals.specs.declared.TextRefusal.{TextRefusal}
use Rattle.dates.specs.declared.Day.{Day}
use Rattle.dates.specs.declared.Month.{Month}
use Rattle.std.specs.Prelude.{Option, None, Result, Ok, Err}
use Rattle.chunks.specs.Chunks.{chunks_of, span_of}
use Rattle.chunks.specs.Check.{checked}
use Rattle.chunks.specs.Format.{formatted}
use Rattle.chunks.specs.Upper.{uppercase}
use Rattle.numbers.specs.Trim.{trim_end}
use Rattle.dates.specs.declared.Datetime.{Datetime}
use Rattle.dates.specs.declared.DateValue.{DateValue}
use Rattle.dates.specs.declared.DateValue.TheVariants.{At, After, Before, Between}
use Rattle.dates.specs.declared.Date.{Date}
use Rattle.dates.specs.Calendar.{month_length}
use Rattle.dates.specs.Value.{datetime, month, day}
use Rattle.dates.proofs.Months.{some-day}
use Rattle.points.specs.Point.{point}
use Rattle.points.specs.Accepted.{Dated}
use Rattle.points.proofs.Accepted.{accepted-date}
use Rattle.xranges.specs.Range.{range_dates}
use Rattle.xranges.specs.Accepted.{XRange, some_years, all_months, all_days}
use Rattle.xranges.proofs.Accepted.{accepted-range}
use Rattle.datefield.specs.Text.{trimmed, unmarked, first_of, is_open}
use Rattle.datefield.specs.Value.{moved, first_half, second_half, on_half, both_halves, halves, x_range, value, marked, trimmed_date, parse_text}
use Rattle.reading_laws.specs.Field.{on_clean, parsed}
use Rattle.dates.specs.Clocks.{bad_time, has_bad_time}
use Rattle.dates.specs.Domain.{PartsIn, EndIn}
use Rattle.roundtrip_laws.specs.Domain.{AllDated, Known, InDomain, Untimed, ShortMonthRange, days_xx}
use Rattle.roundtrip_laws.specs.Letters.{NoByte, NoX}
use Rattle.roundtrip_laws.proofs.Letters.{no-take, no-first, upper-not}

-- what holds of every value that is read
pub data Holds (P : DateValue → Type 0) : Result DateValue Refusal → Type 0 where
  holds : {v : DateValue} → P v → Holds P (Ok v)
  fails : {e : Refusal} → Holds P (Err e)

pub holds_of : {P Q : DateValue → Type 0} {r : Result DateValue Refusal} → ((v : DateValue) → P v → Q v) → Holds P r → Holds Q r
holds_of f (holds {v} h) = holds (f v h)
holds_of f fails = fails

half-good : (t : List ℕ) (by : TextRefusal → Refusal) {go : Datetime → Result DateValue Refusal} → ((d : Datetime) → Dated d → Holds AllDated (go d)) → Holds AllDated (on_half (moved (point t) by) go)
unfolding on_half moved
half-good t by {go} k = at (point t) refl
  where
    at : (r : Result Datetime TextRefusal) → point t ≡ r → Holds AllDated (on_half (moved r by) go)
    at (Ok d) e = k d (accepted-date t e)
    at (Err f) e = fails

halves-good : (span : FileSpan) (s : List ℕ) (slash : ℕ) → Holds AllDated (halves span s slash)
unfolding halves both_halves first_half second_half
halves-good span s slash =
    let u = take slash s in
    let v = drop (slash + 1) s in
    by-test (Holds AllDated) (is_open u)
    (λ _. by-test (Holds AllDated) (is_open v) (λ _. fails) λ _. half-good v _ λ b h. holds {v = Before b} h)
    (λ _. by-test (Holds AllDated) (is_open v) (λ _. half-good u _ λ a h. holds {v = After a} h) λ _. half-good u _ λ a h. half-good v _ λ b k. holds {v = Between a b} (h, k))

-- a date of a year without a sign, and no time
pub dated : (y : ℕ) (m : Option Month) (d : Option Day) → y < 10000 → PartsIn (pos y) m d → Dated (datetime (pos y) m d None)
unfolding has_bad_time bad_time
dated y m d h p = record { year_in = h; parts_in = p; time_in = refl; unseasoned = refl }

-- an X range
range-known : {a b : Datetime} → XRange a b → Known (Between a b)
range-known (some_years {y} {z} h k) = inl (dated y None None h tt, dated z None None k tt)
range-known (all_months {y} h) = inl (dated y (month 0) None h (lit< tt), dated y (month 11) None h (lit< tt))
range-known (all_days {y} {m} h l) =
    elim (dec_lt (month_length m (pos y)) 31) [
      | yes n ↦ inr (days_xx y m h l n)
      | no n ↦ inl (dated y (month m) (day 0) h (l, some-day m (pos y) l), dated y (month m) (day 30) h (l, omega (arith, n)))
    ]

range-good : (span : FileSpan) (s : List ℕ) → Holds Known (x_range span (range_dates s))
unfolding x_range
range-good span s = at (range_dates s) refl
  where
    at : (r : Result (Datetime × Datetime) TextRefusal) → range_dates s ≡ r → Holds Known (x_range span r)
    at (Ok (a, b)) e = holds (range-known (accepted-range s e))
    at (Err f) e = fails

-- a value; one whose text has no X is no X range
module _ (span : FileSpan) (s : List ℕ) where
  points-good : Holds AllDated (pick (ltb (first_of 0x2F s) (length s)) (halves span s (first_of 0x2F s)) (on_half (moved (point s) λ e. offset e span.0) λ d. Ok (At d)))
  points-good = by-test (Holds AllDated) _ (λ _. halves-good span s (first_of 0x2F s)) λ _. half-good s _ λ a h. holds {v = At a} h

  pub of-x : (P : DateValue → Type 0) → Holds P (x_range span (range_dates s)) → ((v : DateValue) → AllDated v → P v) → Holds P (value span s)
  unfolding value
  of-x P h f = by-test (Holds P) _ (λ _. h) λ _. holds_of f points-good

  value-good : Holds Known (value span s)
  value-good = of-x Known (range-good span s) (λ v h. inl h)

  value-no-x : NoByte 0x58 s → Holds AllDated (value span s)
  unfolding value pick
  value-no-x n = rw (no-first s n) points-good

-- the same of a Date
pub data Fine (P : DateValue → Type 0) : Result Date Refusal → Type 0 where
  fine : {d : Date} → P d.value → Fine P (Ok d)
  refused : {e : Refusal} → Fine P (Err e)

module _ {P : DateValue → Type 0} where
  marked-fine : (u a : Bool) {r : Result DateValue Refusal} → Holds P r → Fine P (marked u a r)
  unfolding marked
  marked-fine u a (holds h) = fine h
  marked-fine u a fails = refused

  clean-fine : (c : Result (Unit {0}) Refusal) {r : Result Date Refusal} → Fine P r → Fine P (on_clean c r)
  unfolding on_clean
  clean-fine (Ok tt) f = f
  clean-fine (Err e) f = refused

  of-fine : {d : Date} → Fine P (Ok d) → P d.value
  of-fine (fine h) = h

  -- what holds of every value of a text's upper case, trimmed and without its mark, holds of an accepted Date
  pub of-accepted : (b table : List ℕ) {d : Date} → ((span : FileSpan) → Holds P (value span (unmarked (trimmed (uppercase (formatted b table)))))) → parsed b table ≡ Ok d → P d.value
  unfolding parsed parse_text trimmed_date
  of-accepted b table h e = of-fine (subst (Fine P) e (clean-fine (checked b table) (marked-fine _ _ (h (span_of (chunks_of table))))))

-- a letter that a text has in neither case does not stand in what is read of it
module _ (c : ℕ) (low : 0x41 ≤ c) (high : c ≤ 0x5A) (no-s : c ≡ 0x53 → ⊥) where
  pub no-letter : (s : List ℕ) → NoByte c s × NoByte (c + 32) s → NoByte c (unmarked (trimmed (uppercase s)))
  unfolding unmarked trimmed
  no-letter s h =
      let u = uppercase s in
      let n = no-take (trim_end u) {s = u} (omega arith) (upper-not c low high no-s s h.0 h.1) in
      by-test (NoByte c) _ (λ _. no-take (length (take (trim_end u) u) - 1) (omega arith) n) (λ _. n)

end_in : {d : Datetime} → Dated d → d.time ≡ None → EndIn d
end_in w t = record { year_in = w.year_in; parts_in = w.parts_in; untimed = t; unseasoned = w.unseasoned }

-- without a time it is of the domain
pub in-domain : (v : DateValue) → AllDated v → Untimed v → InDomain v
in-domain (At a) h t = end_in h t
in-domain (After a) h t = end_in h t
in-domain (Before a) h t = end_in h t
in-domain (Between a b) h t = (end_in h.0 t.0, end_in h.1 t.1)

-- an accepted text gives dates of the calendar, whatever their time, or such a range
pub accepted-known : (b table : List ℕ) {d : Date} → parsed b table ≡ Ok d → Known d.value
accepted-known b table e = of-accepted {P = Known} b table (λ span. value-good span _) e

-- without an X in it no such range
pub no_x : (b table : List ℕ) {d : Date} → parsed b table ≡ Ok d → NoX (formatted b table) → AllDated d.value
no_x b table e h =
    let n = no-letter 0x58 (lit≤ tt) (lit≤ tt) (λ (z : ◌≡◌ {A = ℕ} 0x58 0x53). omega arith) (formatted b table) h in
    of-accepted {P = AllDated} b table (λ span. value-no-x span _ n) e

-- so a Date of the domain, if it has no time, or such a range
pub accepted-in : (b table : List ℕ) {d : Date} → parsed b table ≡ Ok d → Untimed d.value → InDomain d.value ⊎ ShortMonthRange d.value
accepted-in b table {d} e t = ⊎_elim (λ h. inl (in-domain d.value h t)) inr (accepted-known b table e)
