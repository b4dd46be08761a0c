-- What is accepted has a derivation: a point and its pieces. Assumes nothing.
use mathlib.Core.Path.{◌≡◌, ap, ◌∙◌, subst}
use Prim.Native.Nat.{ℕ, ◌+◌, ◌<◌}
use native.Mathlib.Omega.{arith}
use mathlib.Core.Bool.{Bool, true, false}
use mathlib.Core.List.{List, [], ◌∷◌, ◌++◌}
use lib.IntN.{ℤ}
use lib.Dec.{lit<}
use lib.ListN.{drop}
use lib.Seq.{drop-drop}
use borrow.Author.Tests.{eqb-true}
use Rattle.chars.proofs.Cases.{by-test}
use Rattle.dates.specs.declared.TimeOffset.TheVariants.{Offset}
use Rattle.dates.specs.declared.Datetime.{Datetime}
use Rattle.dates.specs.declared.Day.{Day}
use Rattle.dates.specs.declared.Month.{Month}
use Rattle.dates.specs.declared.Time.{Time}
use Rattle.std.specs.Prelude.{Option, Some}
use Rattle.dates.specs.Value.{datetime, month}
use Rattle.dates.specs.Calendar.{month_length}
use Rattle.strict.specs.declared.ReadOffset.{ReadOffset}
use Rattle.strict.specs.declared.ReadTime.{ReadTime}
use Rattle.strict.specs.Digits.{digits}
use Rattle.strict.specs.Grammar.{Field, Year, dddd, -dddd, Zone, no_zone, z, ahead, behind, Clock, no_time, hh:mm:ss, InMonth, no_day, -dd, InYear, no_month, -mm, Point}
use Rattle.strict.specs.Grammar
use Rattle.strict.specs.Matcher.{is, field, four, without_offset, without_time, shift_at, offset_at, time_at, behind_month, behind_year, point_at, point}
use Rattle.chars.specs.Signs.{signed}
use Rattle.strict.proofs.Places.{Split, joined, none-taken, one-taken}
use Rattle.strict.proofs.Points.{Derived, nothing, upto}
use Rattle.strict.proofs.Pieces.{by_two, by-four, Taken, four-inv, field-inv}

module _ (s : List ℕ) where
  -- the same place by another sum
  same : {l t : List ℕ} (at to : ℕ) → at ≡ to → Split l t (drop at s) → Split l t (drop to s)
  same {l} {t} at to e f = subst (λ (k : ℕ). Split l t (drop k s)) e f

  OffsetAt : ℕ → ReadOffset → Type 0
  OffsetAt at o = Taken (λ t. Zone t o.offset) (drop at s) (drop o.next s)

  no_offset_lem : (at : ℕ) → OffsetAt at (without_offset at)
  unfolding OffsetAt
  no_offset_lem at = record { text = []; derived = no_zone; split = none-taken }

  module _ (at sign : ℕ) (positive : Bool)
      (zone : (t u : List ℕ) (h m : ℕ) → Field sign 0 23 t h → Field 58 0 59 u m → Zone (t ++ u) (Some (Offset positive h m))) where
    shift-taken : OffsetAt at (shift_at s at sign positive)
    unfolding shift_at OffsetAt
    shift-taken =
        by_two (OffsetAt at) (field sign 0 23 (drop at s)) (no_offset_lem at) λ h e.
        by_two (OffsetAt at) (field 58 0 59 (drop (at + 3) s)) (no_offset_lem at) λ m f.
        let p = field-inv sign 0 23 s at e in
        let q = field-inv 58 0 59 s (at + 3) f in
        record { text = p.text ++ q.text; derived = zone p.text q.text h m p.derived q.derived; split = joined p.split (same (at + 3 + 3) (at + 6) (omega arith) q.split) }

  offset-taken : (at : ℕ) → OffsetAt at (offset_at s at)
  unfolding offset_at OffsetAt
  offset-taken at =
      by-test (OffsetAt at) (is 90 s at)
      (λ e. record { text = 90 ∷ []; derived = z; split = one-taken s at (eqb-true _ 90 e) (lit< tt) })
      (λ _. by-test (OffsetAt at) (is 43 s at) (λ _. shift-taken at 43 true (λ t u h m p q. ahead p q)) (λ _. shift-taken at 45 false (λ t u h m p q. behind p q)))

  TimeAt : ℕ → ReadTime → Type 0
  TimeAt at o = Taken (λ t. Clock t o.time) (drop at s) (drop o.next s)

  no-time-at : (at : ℕ) → TimeAt at (without_time at)
  unfolding TimeAt
  no-time-at at = record { text = []; derived = no_time; split = none-taken }

  time-taken : (at : ℕ) → TimeAt at (time_at s at)
  unfolding time_at TimeAt OffsetAt
  time-taken at =
      by_two (TimeAt at) (field 84 0 23 (drop at s)) (no-time-at at) λ h e.
      by_two (TimeAt at) (field 58 0 59 (drop (at + 3) s)) (no-time-at at) λ m f.
      by_two (TimeAt at) (field 58 0 59 (drop (at + 6) s)) (no-time-at at) λ sec g.
      let p = field-inv 84 0 23 s at e in
      let q = field-inv 58 0 59 s (at + 3) f in
      let r = field-inv 58 0 59 s (at + 6) g in
      let o = offset-taken (at + 9) in
      record {
        text = p.text ++ (q.text ++ (r.text ++ o.text));
        derived = hh:mm:ss p.derived q.derived r.derived o.derived;
        split = joined p.split (joined (same (at + 3 + 3) (at + 6) (omega arith) q.split) (joined (same (at + 6 + 3) (at + 9) (omega arith) r.split) o.split));
      }

  data DayAt (at : ℕ) (y : ℤ) (m : ℕ) : Option (Datetime × ℕ) → Type 0 where
    day_at : {t : List ℕ} {d : Option Day} {c : Option Time} {next : ℕ} → InMonth y m t d c → Split (drop at s) t (drop next s) → DayAt at y m (Some (datetime y (month m) d c, next))

  day-taken : (at : ℕ) (y : ℤ) (m : ℕ) → DayAt at y m (behind_month s at y m)
  unfolding behind_month TimeAt
  day-taken at y m =
      by_two (DayAt at y m) (field 45 1 (month_length m y) (drop at s)) (day_at no_day none-taken) λ d e.
      let p = field-inv 45 1 (month_length m y) s at e in
      let o = time-taken (at + 3) in
      day_at (-dd p.derived o.derived) (joined p.split o.split)

  pub data MonthAt (at : ℕ) (y : ℤ) : Option (Datetime × ℕ) → Type 0 where
    month_at : {t : List ℕ} {m : Option Month} {d : Option Day} {c : Option Time} {next : ℕ} → InYear y t m d c → Split (drop at s) t (drop next s) → MonthAt at y (Some (datetime y m d c, next))

  pub month-taken : (at : ℕ) (y : ℤ) → MonthAt at y (behind_year s at y)
  unfolding behind_year
  month-taken at y =
      by_two (MonthAt at y) (field 45 1 12 (drop at s)) (month_at no_month none-taken) λ m e.
      behind (field-inv 45 1 12 s at e) (day-taken (at + 3) y m)
    where
      behind : {at m : ℕ} {r : Option (Datetime × ℕ)} → Taken (λ t. Field 45 1 12 t m) (drop at s) (drop (at + 3) s) → DayAt (at + 3) y m r → MonthAt at y r
      behind p (day_at d f) = month_at (-mm p.derived d) (joined p.split f)

  -- the digits of a point at a place, behind a sign or none
  point_at_lem : (at : ℕ) (negative : Bool) (sign : List ℕ) → Split s sign (drop at s) → ((n : ℕ) → n < 10000 → Year (sign ++ digits 4 n) (signed negative n))
      → Derived Point s (point_at s at negative)
  unfolding point_at
  point_at_lem at negative sign f year =
      by-four (Derived Point s) (four (drop at s)) nothing λ n e.
      whole n (four-inv (drop at s) e) (month-taken (at + 4) (signed negative n))
    where
      whole : (n : ℕ) {r : Option (Datetime × ℕ)} → (n < 10000) × Split (drop at s) (digits 4 n) (drop 4 (drop at s)) → MonthAt (at + 4) (signed negative n) r → Derived Point s r
      whole n p (month_at d g) =
          let h : Split (drop at s) (digits 4 n) (drop (at + 4) s) = record { is = p.1.is ∙ ap (λ (r : List ℕ). digits 4 n ++ r) (drop-drop 4 at s) } in
          upto (Grammar.point (year n p.0) d) (joined (joined f h) g)

  pub point-taken : Derived Point s (point s)
  unfolding point signed
  point-taken =
      by-test (Derived Point s) (is 45 s 0)
      (λ e. point_at_lem 1 true (45 ∷ []) (one-taken s 0 (eqb-true _ 45 e) (lit< tt)) -dddd)
      (λ _. point_at_lem 0 false [] none-taken dddd)
