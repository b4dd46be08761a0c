-- What is known of the writer that keeps times, in one place. Assumes nothing.
use mathlib.Core.Path.{◌≡◌, refl, sym, ap, ◌∙◌, subst}
use mathlib.Core.Bool.{Bool, true, false, false≢true}
use mathlib.Core.List.{List, ◌++◌, append-nil}
use mathlib.Core.Logic.{◌↔◌, inl, inr}
use Prim.Native.Nat.{ℕ, ◌≤◌, ◌<◌}
use native.Mathlib.Omega.{arith}
use lib.Dec.{leb}
use lib.IntN.{ℤ, negsuc}
use lib.ListN.{length}
use borrow.Author.Tests.{le-leb, lt-leb, leb-true, leb-false}
use Rattle.chars.specs.Pick.{pick}
use Rattle.chars.proofs.Cases.{of_test}
use Rattle.refusals.specs.declared.Kind.TheVariants.{RustPanics, NoRoom, BadTime, HasSeason}
use Rattle.refusals.specs.Refusal.{number, refusal, nowhere}
use Rattle.dates.specs.declared.Day.{Day}
use Rattle.dates.specs.declared.Month.{Month}
use Rattle.refusals.specs.declared.Refusal.{Refusal}
use Rattle.std.specs.Prelude.{Option, Some, None, Result, Ok, Err}
use Rattle.dates.specs.declared.TimeOffset.TheVariants.{Offset}
use Rattle.dates.specs.declared.Time.{Time}
use Rattle.dates.specs.declared.Datetime.{Datetime}
use Rattle.dates.specs.declared.DateValue.{DateValue}
use Rattle.dates.specs.declared.DateValue.TheVariants.{At, After, Before, Between}
use Rattle.dates.specs.declared.Date.{Date}
use Rattle.dates.specs.Domain.{PartsIn}
use Rattle.dates.specs.Time.{time, in_range}
use Rattle.dates.specs.Value.{month, day, datetime, is_season, has_season, any_season, date}
use Rattle.dates.proofs.Ends.{no_end}
use Rattle.reading_laws.specs.Field.{parsed, parsed_strict}
use Rattle.roundtrip_laws.specs.Domain.{Untimed}
use Rattle.roundtrip_laws.proofs.Stored.{calendar-written}
use Rattle.puts.specs.Answers.{decided, left}
use Rattle.puts.specs.Answers as writing
use Rattle.writer.specs.Answers.{date_measured, date_answer, date_afterwards}
use Rattle.puts.specs.Numbers.{count, digit_count, width, decimal}
use Rattle.writer.specs.Texts.{minus, year_text, written_month, written_day, day_parts, month_parts, parts_of, part_text, hyphen_part, parts_text, datetime_text, date_text, too_large, end_panics, value_panics, panics}
use Rattle.puts.specs.Marks.{mark_text}
use Rattle.writer.specs.Texts as untimed
use Rattle.writer.specs.Sizes.{Ends, Stored}
use Rattle.writer.proofs.Bounds.{text-most}
use Rattle.timed.specs.Texts.{field, sign, offset_text, zone_text, clock_text, time_text, end_text, value_text, timed_text}
use Rattle.dates.specs.Clocks.{offset_in, zone_in, clock_in, day_beside_month, bad_time, has_bad_time}
use Rattle.chunks.specs.Chunks.{one_chunk}
use Rattle.timed.specs.Answers.{value_bad, plain_measured, timed_measured, timed_answer, timed_afterwards, shown}
use Rattle.timed.specs.Faults.{TimeFault, no_month, no_day, hour_above, minute_above, second_above, offset_hours, offset_minutes, EndFault, FaultIn}
use Rattle.timed.specs.Domain.{ZoneIn, ClockIn, TimeIn, TimedIn, InTimed}
use Rattle.timed.proofs.Pieces.{timed-most}
use Rattle.timed.proofs.Answered.{seasoned, plain}
use Rattle.timed.proofs.Faults.{value-bad}
use Rattle.timed.proofs.Back as back

-- ---- reading back

-- The text of a Date of the domain, as one Normal chunk anywhere in a file, read by the ported reader, gives the same Date, its kind and its
-- marks included,
pub timed-back : (d : Date) → InTimed d.value → (start end : ℕ) → parsed (timed_text d) (one_chunk (timed_text d) start end) ≡ Ok d
timed-back d w start end = back.ported-back d w start end

-- and so does the strict reader
pub timed-strict-back : (d : Date) → InTimed d.value → (start end : ℕ) → parsed_strict (timed_text d) (one_chunk (timed_text d) start end) ≡ Ok d
timed-strict-back d w start end = back.strict-back d w start end

-- ---- a Date with no time

end-untimed : (d : Datetime) → d.time ≡ None → end_text d ≡ datetime_text d
unfolding end_text time_text
end-untimed d e = ap (λ (t : Option Time). datetime_text d ++ time_text t) e ∙ append-nil (datetime_text d)

value-untimed : (v : DateValue) → Untimed v → value_text v ≡ untimed.value_text v
unfolding value_text untimed.value_text
value-untimed (At a) w = end-untimed a w
value-untimed (After a) w = rw (end-untimed a w)
value-untimed (Before a) w = rw (end-untimed a w)
value-untimed (Between a b) w = rw (end-untimed a w.0, end-untimed b w.1)

end-good : (d : Datetime) → d.time ≡ None → has_bad_time d ≡ false
unfolding has_bad_time bad_time
end-good d e = ap (bad_time (day_beside_month d.month d.day)) e

value-good : (v : DateValue) → Untimed v → value_bad v ≡ false
unfolding value_bad
value-good (At a) w = end-good a w
value-good (After a) w = end-good a w
value-good (Before a) w = end-good a w
value-good (Between a b) w = rw (end-good a w.0, end-good b w.1)

module _ (d : Date) (w : Untimed d.value) where
  -- It has the text that the other writer gives it,
  pub same_text : timed_text d ≡ date_text d
  unfolding timed_text date_text
  same_text = rw (value-untimed d.value w)

  -- the same length or refusal,
  pub same_length : timed_measured d ≡ date_measured d (date_text d)
  unfolding timed_measured plain_measured date_measured writing.measured pick
  same_length = rw (value-good d.value w, same_text)

  -- the same answer,
  pub same_answer : (room : ℕ) → timed_answer d room ≡ date_answer d (date_text d) room
  unfolding timed_answer date_answer
  same_answer room = rw same_length

  -- and the same buffer afterwards
  pub same-buffer : (out : List ℕ) → timed_afterwards d out ≡ date_afterwards d (date_text d) out
  unfolding timed_afterwards date_afterwards
  same-buffer out = rw (same_answer (length out), same_text)

-- ---- how long

-- The text of a Date as it is stored has at most 70 bytes,
pub most : (d : Date) → Ends d.value → length (timed_text d) ≤ 70
most d s = timed-most d (text-most d s)

-- -2147483648-255-255T23:59:59+23:59, the longest end
abbrev longest : Datetime
longest = datetime (negsuc 2147483647) (month 254) (day 254) (Some (time 23 59 59 (Some (Offset true 23 59))))

-- from it to it, uncertain and approximate
abbrev pub widest : Date
widest = date (Between longest longest) true true

longest-stored : Stored longest
longest-stored = record { year_in = record { sfits = omega arith }; month_in = omega arith; day_in = omega arith }

pub widest-stored : Ends widest.value
widest-stored = (longest-stored, longest-stored)

-- and one that is written reaches them
pub reached : (length (timed_text widest) ≡ 70) × (timed_answer widest 70 ≡ Ok 70)
unfolding timed_answer timed_measured plain_measured decided value_bad has_bad_time bad_time day_beside_month clock_in zone_in offset_in in_range timed_text value_text end_text time_text clock_text zone_text offset_text sign field datetime_text year_text minus decimal width digit_count count parts_of month_parts day_parts written_month written_day parts_text hyphen_part part_text mark_text panics value_panics end_panics too_large pick
reached = (refl, refl)

-- ---- which answer is given

-- without a season all is as before
pub else-as-before : (d : Date) → any_season d.value ≡ false → (timed_measured d ≡ plain_measured d) × ((room : ℕ) → timed_answer d room ≡ decided (plain_measured d) room) × ((out : List ℕ) → timed_afterwards d out ≡ left (decided (plain_measured d) (length out)) (timed_text d) out)
else-as-before d e = plain d e

-- HasSeason of either end comes first, then RustPanics of either, then BadTime of either, then NoRoom
pub in_order : (d : Date) (room : ℕ) → timed_answer d room ≡ shown (any_season d.value) (panics d) (value_bad d.value) (leb (length (timed_text d)) room) (length (timed_text d))
unfolding timed_answer timed_measured plain_measured decided pick
in_order d room = go (any_season d.value) (panics d) (value_bad d.value)
  where
    go : (s p b : Bool) → decided (pick s (Err (nowhere HasSeason)) (pick p (Err (nowhere RustPanics)) (pick b (Err (nowhere BadTime)) (Ok (length (timed_text d)))))) room ≡ shown s p b (leb (length (timed_text d)) room) (length (timed_text d))
    go true p b = refl
    go false true b = refl
    go false false true = refl
    go false false false = refl

-- the number of a refusal; 0 if it is none
abbrev numbered : Result ℕ Refusal → ℕ
numbered (Ok n) = 0
numbered (Err e) = number e.kind

other : {x y : Result ℕ Refusal} → (numbered x ≡ numbered y → ⊥) → x ≡ y → ⊥
other f e = f (ap numbered e)

-- which tests lead to which answer
module _ (n : ℕ) where
  season-only : (s p b f : Bool) → shown s p b f n ≡ Err (nowhere HasSeason) → s ≡ true
  unfolding refusal pick
  season-only true p b f e = refl
  season-only false true b f e = absurd (other (λ (z : ◌≡◌ {A = ℕ} 9 24). omega arith) e)
  season-only false false true f e = absurd (other (λ (z : ◌≡◌ {A = ℕ} 22 24). omega arith) e)
  season-only false false false true e = absurd (other (λ (z : ◌≡◌ {A = ℕ} 0 24). omega arith) e)
  season-only false false false false e = absurd (other (λ (z : ◌≡◌ {A = ℕ} 13 24). omega arith) e)

  panics-only : (s p b f : Bool) → shown s p b f n ≡ Err (nowhere RustPanics) → (s ≡ false) × (p ≡ true)
  unfolding refusal pick
  panics-only true p b f e = absurd (other (λ (z : ◌≡◌ {A = ℕ} 24 9). omega arith) e)
  panics-only false true b f e = (refl, refl)
  panics-only false false true f e = absurd (other (λ (z : ◌≡◌ {A = ℕ} 22 9). omega arith) e)
  panics-only false false false true e = absurd (other (λ (z : ◌≡◌ {A = ℕ} 0 9). omega arith) e)
  panics-only false false false false e = absurd (other (λ (z : ◌≡◌ {A = ℕ} 13 9). omega arith) e)

  bad-only : (s p b f : Bool) → shown s p b f n ≡ Err (nowhere BadTime) → (s ≡ false) × (p ≡ false) × (b ≡ true)
  unfolding refusal pick
  bad-only true p b f e = absurd (other (λ (z : ◌≡◌ {A = ℕ} 24 22). omega arith) e)
  bad-only false true b f e = absurd (other (λ (z : ◌≡◌ {A = ℕ} 9 22). omega arith) e)
  bad-only false false true f e = (refl, refl, refl)
  bad-only false false false true e = absurd (other (λ (z : ◌≡◌ {A = ℕ} 0 22). omega arith) e)
  bad-only false false false false e = absurd (other (λ (z : ◌≡◌ {A = ℕ} 13 22). omega arith) e)

  room-only : (s p b f : Bool) → shown s p b f n ≡ Err (nowhere NoRoom) → (s ≡ false) × (p ≡ false) × (b ≡ false) × (f ≡ false)
  unfolding refusal pick
  room-only true p b f e = absurd (other (λ (z : ◌≡◌ {A = ℕ} 24 13). omega arith) e)
  room-only false true b f e = absurd (other (λ (z : ◌≡◌ {A = ℕ} 9 13). omega arith) e)
  room-only false false true f e = absurd (other (λ (z : ◌≡◌ {A = ℕ} 22 13). omega arith) e)
  room-only false false false true e = absurd (other (λ (z : ◌≡◌ {A = ℕ} 0 13). omega arith) e)
  room-only false false false false e = (refl, refl, refl, refl)

  done-only : (s p b f : Bool) → shown s p b f n ≡ Ok n → (s ≡ false) × (p ≡ false) × (b ≡ false) × (f ≡ true)
  unfolding refusal pick
  done-only true p b f e = absurd (other (λ (z : ◌≡◌ {A = ℕ} 24 0). omega arith) e)
  done-only false true b f e = absurd (other (λ (z : ◌≡◌ {A = ℕ} 9 0). omega arith) e)
  done-only false false true f e = absurd (other (λ (z : ◌≡◌ {A = ℕ} 22 0). omega arith) e)
  done-only false false false true e = (refl, refl, refl, refl)
  done-only false false false false e = absurd (other (λ (z : ◌≡◌ {A = ℕ} 13 0). omega arith) e)

-- no cause, no bad time
no-fault : (v : DateValue) → value_bad v ≡ false → FaultIn v → ⊥
no-fault v e f = false≢true (sym e ∙ (value-bad v).1 f)

good : (v : DateValue) → (FaultIn v → ⊥) → value_bad v ≡ false
good v f = of_test (value_bad v) (λ e. absurd (f ((value-bad v).0 e))) (λ e. e)

module _ (d : Date) (room : ℕ) where
  abbrev n : ℕ
  n = length (timed_text d)

  -- the answer, once it is told whether an end has a season
  told : (s : Bool) → any_season d.value ≡ s → timed_answer d room ≡ shown s (panics d) (value_bad d.value) (leb n room) n
  told s e = in_order d room ∙ ap (λ (x : Bool). shown x (panics d) (value_bad d.value) (leb n room) n) e

  -- HasSeason is answered exactly if one of the ends has a season,
  pub season-exactly : (timed_answer d room ≡ Err (nowhere HasSeason)) ↔ (any_season d.value ≡ true)
  season-exactly = (
    λ e. season-only n (any_season d.value) (panics d) (value_bad d.value) (leb n room) (sym (in_order d room) ∙ e),
    λ e. (seasoned d e).1 room,
  )

  -- RustPanics exactly if none has and one of them panics,
  pub panics-exactly : (timed_answer d room ≡ Err (nowhere RustPanics)) ↔ ((any_season d.value ≡ false) × (panics d ≡ true))
  unfolding pick
  panics-exactly = (
    λ e. panics-only n (any_season d.value) (panics d) (value_bad d.value) (leb n room) (sym (in_order d room) ∙ e),
    λ (h : (any_season d.value ≡ false) × (panics d ≡ true)). told false h.0 ∙ rw h.1,
  )

  -- BadTime exactly if none has or does and one of the ends has a bad time,
  pub bad-exactly : (timed_answer d room ≡ Err (nowhere BadTime)) ↔ ((any_season d.value ≡ false) × (panics d ≡ false) × FaultIn d.value)
  unfolding pick
  bad-exactly = (
    λ e. let q = bad-only n (any_season d.value) (panics d) (value_bad d.value) (leb n room) (sym (in_order d room) ∙ e) in (q.0, q.1, (value-bad d.value).0 q.2),
    λ (h : (any_season d.value ≡ false) × (panics d ≡ false) × FaultIn d.value). told false h.0 ∙ rw (h.1, (value-bad d.value).1 h.2),
  )

  -- NoRoom exactly if no end has a season, panics or has a bad time, and the buffer is shorter than the text,
  pub no-room-exactly : (timed_answer d room ≡ Err (nowhere NoRoom)) ↔ ((any_season d.value ≡ false) × (panics d ≡ false) × (FaultIn d.value → ⊥) × (room < length (timed_text d)))
  unfolding pick
  no-room-exactly = (
    λ e. let q = room-only n (any_season d.value) (panics d) (value_bad d.value) (leb n room) (sym (in_order d room) ∙ e) in (q.0, q.1, no-fault d.value q.2, leb-false n room q.3),
    λ (h : (any_season d.value ≡ false) × (panics d ≡ false) × (FaultIn d.value → ⊥) × (room < n)). told false h.0 ∙ rw (h.1, good d.value h.2, lt-leb n room h.3),
  )

  -- and the text is written exactly if it is not
  pub written-exactly : (timed_answer d room ≡ Ok (length (timed_text d))) ↔ ((any_season d.value ≡ false) × (panics d ≡ false) × (FaultIn d.value → ⊥) × (length (timed_text d) ≤ room))
  unfolding pick
  written-exactly = (
    λ e. let q = done-only n (any_season d.value) (panics d) (value_bad d.value) (leb n room) (sym (in_order d room) ∙ e) in (q.0, q.1, no-fault d.value q.2, leb-true n room q.3),
    λ (h : (any_season d.value ≡ false) × (panics d ≡ false) × (FaultIn d.value → ⊥) × (n ≤ room)). told false h.0 ∙ rw (h.1, good d.value h.2, le-leb n room h.3),
  )

-- and so it is with the length
pub season-measured : (d : Date) → (timed_measured d ≡ Err (nowhere HasSeason)) ↔ (any_season d.value ≡ true)
unfolding timed_answer decided
season-measured d = (λ e. (season-exactly d 0).0 (ap (λ (m : Result ℕ Refusal). decided m 0) e), λ q. (seasoned d q).0)

-- ---- no Date of the domain is refused

-- no end of it panics
end_known : (d : Datetime) → TimedIn d → end_panics d ≡ false
unfolding end_panics parts_of
end_known d w = calendar-written d.year d.month d.day w.parts_in

value-known : (v : DateValue) → InTimed v → value_panics v ≡ false
unfolding value_panics
value-known v w = no_end end_known v w

-- nor has a season
end-plain : (d : Datetime) → TimedIn d → has_season d ≡ false
end-plain d w = ap is_season w.unseasoned

value-plain : (v : DateValue) → InTimed v → any_season v ≡ false
value-plain v w = no_end end-plain v w

-- nor has a bad time
in-clock : (d : Option Day) {t : Time} → TimeIn d (Some t) → ClockIn t
in-clock None w = absurd w
in-clock (Some d) w = w

parts-sound : (y : ℤ) (m : Option Month) (d : Option Day) {t : Option Time} → PartsIn y m d → TimeIn d t → TimeFault m d t → ⊥
parts-sound y m None w k (no_month) = k
parts-sound y m (Some d) w k (no_month) = w
parts-sound y m d w k (no_day) = k
parts-sound y m d w k (hour_above h) = omega (arith, (in-clock d k).hour_in)
parts-sound y m d w k (minute_above h) = omega (arith, (in-clock d k).minute_in)
parts-sound y m d w k (second_above h) = omega (arith, (in-clock d k).second_in)
parts-sound y m d w k (offset_hours e h) = omega (arith, (subst ZoneIn e (in-clock d k).zone_in).0)
parts-sound y m d w k (offset_minutes e h) = omega (arith, (subst ZoneIn e (in-clock d k).zone_in).1)

end-sound : (d : Datetime) → TimedIn d → EndFault d → ⊥
end-sound d w f = parts-sound d.year d.month d.day w.parts_in w.time_in f

value-sound : (v : DateValue) → InTimed v → FaultIn v → ⊥
value-sound (At a) w f = end-sound a w f
value-sound (After a) w f = end-sound a w f
value-sound (Before a) w f = end-sound a w f
value-sound (Between a b) w (inl f) = end-sound a w.0 f
value-sound (Between a b) w (inr f) = end-sound b w.1 f

-- so where there is room its text is written
pub accepted : (d : Date) → InTimed d.value → (room : ℕ) → length (timed_text d) ≤ room → timed_answer d room ≡ Ok (length (timed_text d))
unfolding panics
accepted d w room h = (written-exactly d room).1 (value-plain d.value w, value-known d.value w, value-sound d.value w, h)
