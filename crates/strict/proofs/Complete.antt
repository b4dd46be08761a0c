-- What has a derivation is accepted, and says what the derivation says: a point and its pieces. Assumes nothing.
use mathlib.Core.Path.{◌≡◌, ap, ◌∙◌}
use Prim.Native.Nat.{ℕ, ◌+◌, ◌/◌, ◌%◌, ◌<◌}
use native.Mathlib.Decide.{dec_lt}
use native.Mathlib.Omega.{arith}
use mathlib.Core.Bool.{Bool, true, false}
use mathlib.Core.List.{List, ◌∷◌, ◌++◌, append_assoc}
use lib.Dec.{ltb, ltb→lt}
use lib.IntN.{ℤ, pos, neg_ℤ}
use lib.ListN.{get_or, get_or-eq_default}
use borrow.Author.Tests.{ne_eqb}
use Rattle.chars.specs.Pick.{pick}
use Rattle.chars.proofs.Below as below
use Rattle.dates.specs.declared.Day.{Day}
use Rattle.dates.specs.declared.Month.{Month}
use Rattle.dates.specs.declared.Time.{Time}
use Rattle.dates.specs.declared.TimeOffset.{TimeOffset}
use Rattle.std.specs.Prelude.{Option, Some}
use Rattle.dates.specs.declared.Datetime.{Datetime}
use Rattle.dates.specs.Value.{datetime, month}
use Rattle.dates.specs.Calendar.{leap_year, february, month_lengths, month_length}
use Rattle.strict.specs.Digits.{digits}
use Rattle.strict.specs.Grammar.{dddd, -dddd, Zone, no_zone, z, ahead, behind, Clock, no_time, hh:mm:ss, InMonth, no_day, -dd, InYear, no_month, -mm, Point}
use Rattle.strict.specs.Grammar
use Rattle.strict.specs.Matcher.{on, on_four, four, shift_at, offset_at, time_at, behind_month, behind_year, point_at, point}
use Rattle.chars.specs.Signs.{signed}
use Rattle.strict.proofs.Places.{From, Split, first, further, moved}
use Rattle.strict.proofs.Points.{Ends, Before}
use Rattle.strict.proofs.Pieces.{four-back, field_at, field-first, field-behind, no_field}

module _ {r : List ℕ} (e : Ends r) {s : List ℕ} {at : ℕ} where
  offset_read : {t : List ℕ} {o : Option TimeOffset} → Zone t o → From s at (t ++ r) → Before s r (λ n. offset_at s at ≡ record { offset = o; next = n })
  unfolding offset_at shift_at on pick
  offset_read no_zone f =
      record { place = at; left = f; reads = rw (first f, e.zed, e.plus, no_field 45 0 23 f e.dash) }
  offset_read z f = record { place = at + 1; left = further f 1; reads = rw (first f) }
  offset_read (ahead {s = a} {t = b} h m) f =
      let g : From s at (a ++ (b ++ r)) = record { is = f.is ∙ append_assoc a b r } in
      let k = field-behind h (b ++ r) g in
      record {
        place = at + 6;
        left = moved (field-behind m r k) (omega arith);
        reads = rw (field-first h (b ++ r) g, field_at h (b ++ r) g (omega arith), field_at m r k (omega arith));
      }
  offset_read (behind {s = a} {t = b} h m) f =
      let g : From s at (a ++ (b ++ r)) = record { is = f.is ∙ append_assoc a b r } in
      let k = field-behind h (b ++ r) g in
      record {
        place = at + 6;
        left = moved (field-behind m r k) (omega arith);
        reads = rw (field-first h (b ++ r) g, field_at h (b ++ r) g (omega arith), field_at m r k (omega arith));
      }

module _ {r : List ℕ} (e : Ends r) {s : List ℕ} {at : ℕ} where
  time-read : {t : List ℕ} {o : Option Time} → Clock t o → From s at (t ++ r) → Before s r (λ n. time_at s at ≡ record { time = o; next = n })
  unfolding time_at on
  time-read no_time f = record { place = at; left = f; reads = rw (no_field 84 0 23 f e.tee) }
  time-read (hh:mm:ss {s = a} {t = b} {u = c} {v = d} h m sec zone) f =
      let g : From s at (a ++ (b ++ (c ++ (d ++ r)))) = record { is = f.is ∙ simp append_assoc } in
      let k = field-behind h (b ++ (c ++ (d ++ r))) g in
      let l = moved (field-behind m (c ++ (d ++ r)) k) {to = at + 6} (omega arith) in
      let o = offset_read e zone (moved (field-behind sec (d ++ r) l) {to = at + 9} (omega arith)) in
      record {
        place = o.place;
        left = o.left;
        reads = rw (field_at h (b ++ (c ++ (d ++ r))) g (omega arith), field_at m (c ++ (d ++ r)) k (omega arith), field_at sec (d ++ r) l (omega arith), o.reads);
      }

-- the days of a month are written with two digits: one test over the twelve months
short : (m : ℕ) (y : ℤ) → month_length m y < 100
unfolding month_length month_lengths february
short m y = elim (dec_lt m 12) [ yes h ↦ go (leap_year y) h | no h ↦ rw (get_or-eq_default (month_lengths (leap_year y)) 0 {n = m} (omega arith)) (omega arith) ]
  where
    go : (leap : Bool) → m < 12 → get_or (month_lengths leap) m 0 < 100
    go true h = ltb→lt _ 100 (below.at (λ (k : ℕ). ltb (get_or (month_lengths true) k 0) 100) 12 tt m h)
    go false h = ltb→lt _ 100 (below.at (λ (k : ℕ). ltb (get_or (month_lengths false) k 0) 100) 12 tt m h)

module _ {r : List ℕ} (e : Ends r) {s : List ℕ} {at : ℕ} (y : ℤ) where
  day_read : {m : ℕ} {t : List ℕ} {d : Option Day} {c : Option Time} → InMonth y m t d c → From s at (t ++ r)
      → Before s r (λ n. behind_month s at y m ≡ Some (datetime y (month m) d c, n))
  unfolding behind_month on
  day_read {m} no_day f = record { place = at; left = f; reads = rw (no_field 45 1 (month_length m y) f e.dash) }
  day_read {m} (-dd {s = a} {t = b} d c) f =
      let g : From s at (a ++ (b ++ r)) = record { is = f.is ∙ append_assoc a b r } in
      let o = time-read e c (field-behind d (b ++ r) g) in
      record { place = o.place; left = o.left; reads = rw (field_at d (b ++ r) g (omega (arith, short m y)), o.reads) }

module _ {r : List ℕ} (e : Ends r) {s : List ℕ} {at : ℕ} (y : ℤ) where
  pub month_read : {t : List ℕ} {m : Option Month} {d : Option Day} {c : Option Time} → InYear y t m d c → From s at (t ++ r)
      → Before s r (λ n. behind_year s at y ≡ Some (datetime y m d c, n))
  unfolding behind_year on
  month_read no_month f = record { place = at; left = f; reads = rw (no_field 45 1 12 f e.dash) }
  month_read (-mm {s = a} {t = b} m d) f =
      let g : From s at (a ++ (b ++ r)) = record { is = f.is ∙ append_assoc a b r } in
      let o = day_read e y d (field-behind m (b ++ r) g) in
      record { place = o.place; left = o.left; reads = rw (field_at m (b ++ r) g (omega arith), o.reads) }

pub point-read : {s t r : List ℕ} {a : Datetime} → Ends r → Point t a → Split s t r → Before s r (λ n. point s ≡ Some (a, n))
unfolding point point_at on_four signed pick
point-read {s} {r = r} e (Grammar.point {t = t} (dddd n h) p) f =
    let g : From s 0 (digits 4 n ++ (t ++ r)) = record { is = f.is } in
    let o = month_read e (pos n) p (further g 4) in
    record {
      place = o.place;
      left = o.left;
      reads = rw (first g, ne_eqb (48 + n / 10 / 10 / 10 % 10) 45 (λ e. omega arith), ap four g.is ∙ four-back n (t ++ r) h, o.reads);
    }
point-read {s} {r = r} e (Grammar.point {t = t} (-dddd n h) p) f =
    let g : From s 0 (45 ∷ (digits 4 n ++ (t ++ r))) = record { is = f.is } in
    let k = further g 1 in
    let o = month_read e (neg_ℤ (pos n)) p (further k 4) in
    record {
      place = o.place;
      left = o.left;
      reads = rw (first g, ap four k.is ∙ four-back n (t ++ r) h, o.reads);
    }
