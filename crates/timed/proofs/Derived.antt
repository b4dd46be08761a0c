-- The text with times of a Date of the domain is a text of the strict grammar, and says that Date. Assumes nothing.
use mathlib.Core.Path.{◌≡◌, refl, sym, ap, ◌∙◌, subst}
use mathlib.Core.Bool.{true, false}
use mathlib.Core.List.{List, [], ◌∷◌, ◌++◌, append-nil, append_assoc}
use Prim.Native.Nat.{ℕ, suc, ◌≤◌, ◌<◌}
use Prim.Native.Char.{code}
use native.Mathlib.Nat.{zero-add}
use native.Mathlib.Omega.{arith}
use lib.IntN.{ℤ, pos, negsuc, nat_abs}
use Rattle.dates.proofs.Whole.{four-parts}
use Rattle.dates.specs.declared.Month.{Month}
use Rattle.dates.specs.declared.Day.{Day}
use Rattle.std.specs.Prelude.{Option, Some, None}
use Rattle.dates.specs.declared.TimeOffset.{TimeOffset}
use Rattle.dates.specs.declared.TimeOffset.TheVariants.{Utc, Offset}
use Rattle.dates.specs.declared.Time.{Time}
use Rattle.dates.specs.declared.Datetime.{Datetime}
use Rattle.dates.specs.declared.DateValue.{DateValue}
use Rattle.dates.specs.declared.DateValue.TheVariants.{At, After, Before, Between}
use Rattle.dates.specs.declared.Date.{Date}
use Rattle.dates.specs.Calendar.{month_length}
use Rattle.dates.specs.Domain.{PartsIn}
use Rattle.dates.specs.Value.{datetime}
use Rattle.strict.specs.Digits.{digits}
use Rattle.strict.specs.Canonical.{year_text, part_text, day_text, month_text, canonical}
use Rattle.strict.specs.Grammar.{Year, dddd, -dddd, Field, field, Zone, no_zone, z, ahead, behind, Clock, hh:mm:ss, -dd, InYear, -mm, Point, point, Value, alone, between, after, before, Text, text}
use Rattle.strict.proofs.Written.{derived}
use Rattle.writer.specs.Texts.{parts_of, datetime_text}
use Rattle.roundtrip_laws.proofs.Derived.{canonical-is, mark-derived}
use Rattle.timed.specs.Texts.{sign, offset_text, zone_text, clock_text, time_text, end_text, value_text, timed_text}
use Rattle.timed.specs.Texts as timed
use Rattle.timed.specs.Domain.{OffsetIn, ZoneIn, ClockIn, TimeIn, TimedIn, InTimed}

-- ---- a time

field-derived : (c last n : ℕ) → n ≤ last → Field c 0 last (timed.field c n) n
unfolding timed.field
field-derived c last n h = subst (λ (k : ℕ). Field c 0 last (c ∷ digits 2 k) n) (zero-add n) (field n (omega arith))

offset-derived : (o : TimeOffset) → OffsetIn o → Zone (offset_text o) (Some o)
unfolding offset_text sign
offset-derived Utc w = z
offset-derived (Offset true h m) w = ahead (field-derived (code "+") 23 h w.0) (field-derived (code ":") 59 m w.1)
offset-derived (Offset false h m) w = behind (field-derived (code "-") 23 h w.0) (field-derived (code ":") 59 m w.1)

zone-derived : (o : Option TimeOffset) → ZoneIn o → Zone (zone_text o) o
unfolding zone_text
zone-derived None w = no_zone
zone-derived (Some o) w = offset-derived o w

regroup : (a b c d : List ℕ) → a ++ (b ++ (c ++ d)) ≡ a ++ b ++ c ++ d
regroup a b c d = sym (append_assoc (a ++ b) c d ∙ append_assoc a b (c ++ d))

clock-derived : (t : Time) → ClockIn t → Clock (clock_text t) (Some t)
unfolding clock_text
clock-derived t w =
    subst (λ (s : List ℕ). Clock s (Some t))
    (regroup (timed.field (code "T") t.hour) (timed.field (code ":") t.minute) (timed.field (code ":") t.second) (zone_text t.offset))
    (hh:mm:ss (field-derived (code "T") 23 t.hour w.hour_in) (field-derived (code ":") 59 t.minute w.minute_in) (field-derived (code ":") 59 t.second w.second_in) (zone-derived t.offset w.zone_in))

-- ---- an end

year-derived : (y : ℤ) → nat_abs y < 10000 → Year (year_text y) y
unfolding year_text
year-derived (pos n) h = dddd n h
year-derived (negsuc n) h = -dddd (suc n) h

-- what is written before the time does not depend on it
same-date : (y : ℤ) (m : Option Month) (d : Option Day) (t : Option Time) → nat_abs y < 10000 → PartsIn y m d → datetime_text (datetime y m d t) ≡ year_text y ++ month_text m d
unfolding datetime_text parts_of canonical
same-date y m d t h w = canonical-is (datetime y m d None) (record { year_in = h; parts_in = w; untimed = refl; unseasoned = refl })

module _ (y : ℤ) (h : nat_abs y < 10000) where
  on-day : (m : Month) (d : Day) (t : Time) → (m.0 < 12) × (d.0 < month_length m.0 y) → ClockIn t
      → Point (year_text y ++ month_text (Some m) (Some d) ++ clock_text t) (datetime y (Some m) (Some d) (Some t))
  unfolding month_text day_text part_text
  on-day m d t w k =
      let parts : InYear y (part_text m.0 ++ (part_text d.0 ++ clock_text t)) (Some m) (Some d) (Some t) = -mm (field m.0 (omega (arith, w.0))) (-dd (field d.0 (omega (arith, w.1))) (clock-derived t k)) in
      subst (λ (s : List ℕ). Point s (datetime y (Some m) (Some d) (Some t)))
      (ap (λ (u : List ℕ). year_text y ++ u) (sym (append_assoc (part_text m.0) (part_text d.0) (clock_text t))) ∙ sym (append_assoc (year_text y) (part_text m.0 ++ part_text d.0) (clock_text t)))
      (point (year-derived y h) parts)

  parts-derived : (m : Option Month) (d : Option Day) (t : Option Time) → PartsIn y m d → TimeIn d t → Point (year_text y ++ month_text m d ++ time_text t) (datetime y m d t)
  unfolding time_text canonical
  parts-derived m d None w k =
      subst (λ (s : List ℕ). Point s (datetime y m d None)) (sym (append-nil (year_text y ++ month_text m d)))
      (derived (datetime y m d None) (record { year_in = h; parts_in = w; untimed = refl; unseasoned = refl }))
  parts-derived m None (Some t) w k = absurd k
  parts-derived None (Some d) (Some t) w k = absurd w
  parts-derived (Some m) (Some d) (Some t) w k = on-day m d t w k

pub end-derived : (d : Datetime) → TimedIn d → Point (end_text d) d
unfolding end_text
end-derived d w =
    subst (λ (a : Datetime). Point (end_text a) a) (four-parts d w.unseasoned)
    (subst (λ (s : List ℕ). Point (s ++ time_text d.time) (datetime d.year d.month d.day d.time)) (sym (same-date d.year d.month d.day d.time w.year_in w.parts_in))
    (parts-derived d.year w.year_in d.month d.day d.time w.parts_in w.time_in))

-- ---- a date

value-derived : (v : DateValue) → InTimed v → Value Point (value_text v) v
unfolding value_text
value-derived (At a) w = alone (end-derived a w)
value-derived (After a) w = after (end-derived a w)
value-derived (Before a) w = before (end-derived a w)
value-derived (Between a b) w =
    subst (λ (s : List ℕ). Value Point s (Between a b)) (sym (append_assoc (end_text a) (code "/" ∷ []) (end_text b)))
    (between (end-derived a w.0) (end-derived b w.1))

pub date-derived : (d : Date) → InTimed d.value → Text (timed_text d) d
unfolding timed_text
date-derived d w = text (value-derived d.value w) (mark-derived d.uncertain d.approximate)
