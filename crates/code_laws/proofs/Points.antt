-- A usual point is the text that its Datetime has in the strict grammar, and the Datetime is one of the calendar with a year of four digits;
-- with a time behind the day it is derived by that grammar.
-- Assumes nothing.
use mathlib.Core.Path.{◌≡◌, refl, sym, ap, ◌∙◌, subst}
use mathlib.Core.Bool.{Bool, true, false, ◌&&◌}
use mathlib.Core.List.{List, [], ◌∷◌, ◌++◌, append-nil}
use Prim.Native.Nat.{ℕ, suc, ◌+◌, ◌*◌, ◌-◌, ◌/◌, ◌%◌, ◌≤◌, ◌<◌}
use native.Mathlib.Nat.{zero-add}
use native.Mathlib.Omega.{arith}
use lib.Dec.{eqb, ltb}
use lib.IntN.{pos}
use lib.ListN.{length, get_or, drop, drop_of_length-le}
use borrow.Author.Tests.{eqb-true, eqb-false, ltb-true}
use Rattle.chars.specs.Classes.{is_ascii_digit}
use Rattle.chars.proofs.Cases.{by-test, and-true}
use Rattle.chars.proofs.Spelled.{bytes_at, spelled}
use Rattle.dates.specs.declared.TimeOffset.{TimeOffset}
use Rattle.std.specs.Prelude.{Some, None, Option}
use Rattle.dates.specs.declared.TimeOffset.TheVariants.{Utc, Offset}
use Rattle.dates.specs.declared.Time.{Time}
use Rattle.dates.specs.declared.Datetime.{Datetime}
use Rattle.dates.specs.Calendar.{month_length}
use Rattle.dates.specs.Domain.{EndIn}
use Rattle.dates.specs.Time.{time}
use Rattle.dates.specs.Value.{datetime, month, day}
use Rattle.dates.proofs.Lengths.{length_most}
use Rattle.strict.specs.Digits.{digits}
use Rattle.strict.specs.Canonical.{year_text, part_text, day_text, month_text, canonical}
use Rattle.strict.specs.Grammar.{dddd, Field, field, Zone, no_zone, z, ahead, behind, Clock, hh:mm:ss, -dd, -mm, Point, point}
use Rattle.strict.proofs.Digits.{digit}
use Rattle.codes.specs.Points.{two_of, four_of, two_at, year_of, counted_from, part_at, year_point, month_point, day_point, is_clock, is_shift, shift_by, zone_of, on_some, time_of, point_of}

-- what goes on from a value that may be none
pub by-some : {A B : Type 0} (P : Option B → Type 0) (x : Option A) {go : A → Option B} → P None → ((a : A) → x ≡ Some a → P (go a)) → P (on_some x go)
unfolding on_some
by-some P None n f = n
by-some P (Some a) n f = f a refl

-- two digits, and four
two_digits : (a b : ℕ) → is_ascii_digit a ≡ true → is_ascii_digit b ≡ true → a ∷ b ∷ [] ≡ digits 2 ((a - 48) * 10 + (b - 48))
two_digits a b ea eb =
    let da = digit a ea in
    let db = digit b eb in
    let l = da.low in
    let h = da.high in
    let m = db.low in
    let k = db.high in
    ap (λ (x : ℕ). x ∷ b ∷ []) (omega arith) ∙ ap (λ (x : ℕ). (48 + ((a - 48) * 10 + (b - 48)) / 10 % 10) ∷ x ∷ []) (omega arith)

pub two-are : (a b : ℕ) → two_of a b < 100 → a ∷ b ∷ [] ≡ digits 2 (two_of a b)
unfolding two_of
two-are a b =
    by-test (λ (n : ℕ). n < 100 → a ∷ b ∷ [] ≡ digits 2 n) (is_ascii_digit a && is_ascii_digit b)
    (λ t h. two_digits a b (and-true (is_ascii_digit a) _ t).0 (and-true (is_ascii_digit a) _ t).1)
    (λ t h. absurd (omega arith))

pub cons_same : {a b : ℕ} {s t : List ℕ} → a ≡ b → s ≡ t → a ∷ s ≡ b ∷ t
cons_same e f = rw (e, f)

joined : (h l : ℕ) → h < 100 → l < 100 → digits 2 h ++ digits 2 l ≡ digits 4 (h * 100 + l)
joined h l p q = cons_same (omega arith) (cons_same (omega arith) (cons_same (omega arith) (cons_same (omega arith) refl)))

four_are : (a b c d : ℕ) → four_of a b c d < 10000 → a ∷ b ∷ c ∷ d ∷ [] ≡ digits 4 (four_of a b c d)
unfolding four_of
four_are a b c d =
    by-test (λ (n : ℕ). n < 10000 → a ∷ b ∷ c ∷ d ∷ [] ≡ digits 4 n) (ltb (two_of a b) 100 && ltb (two_of c d) 100)
    (λ t h.
    let p = ltb-true (two_of a b) 100 (and-true (ltb (two_of a b) 100) _ t).0 in
    let q = ltb-true (two_of c d) 100 (and-true (ltb (two_of a b) 100) _ t).1 in
    ap (λ (s : List ℕ). s ++ c ∷ d ∷ []) (two-are a b p) ∙ ap (λ (s : List ℕ). digits 2 (two_of a b) ++ s) (two-are c d q) ∙ joined (two_of a b) (two_of c d) p q)
    (λ t h. absurd (omega arith))

-- a byte and two digits behind it
pub record Part (s : List ℕ) (at c n : ℕ) : Type 0 where
  pub sign : get_or s at 0 ≡ c
  pub number : get_or s (at + 1) 0 ∷ get_or s (at + 2) 0 ∷ [] ≡ digits 2 n

counted : {a b : ℕ} (n : ℕ) → (n < 100 → a ∷ b ∷ [] ≡ digits 2 n) → counted_from n < 99 → a ∷ b ∷ [] ≡ digits 2 (1 + counted_from n)
unfolding counted_from
counted {a} {b} n f =
    by-test (λ (k : ℕ). k < 99 → a ∷ b ∷ [] ≡ digits 2 (1 + k)) (eqb n 0)
    (λ t h. absurd (omega arith))
    (λ t h. f (omega arith) ∙ ap (digits 2) (once n (eqb-false n 0 t)))
  where
    once : (k : ℕ) → (k ≡ 0 → ⊥) → k ≡ 1 + (k - 1)
    once k h = let z = h in omega arith

part-are : (s : List ℕ) (at : ℕ) → part_at s at < 99 → Part s at 45 (1 + part_at s at)
unfolding part_at
part-are s at =
    let a = get_or s (at + 1) 0 in
    let b = get_or s (at + 2) 0 in
    by-test (λ (n : ℕ). n < 99 → Part s at 45 (1 + n)) (eqb (get_or s at 0) 45)
    (λ t h. record { sign = eqb-true _ 45 t; number = counted (two_of a b) (two-are a b) h })
    (λ t h. absurd (omega arith))

-- a text is that of a Datetime of the domain
pub record Said (s : List ℕ) (d : Datetime) : Type 0 where
  -- its text in the strict grammar
  pub text_is : s ≡ canonical d
  -- of the domain
  pub end_in : EndIn d

-- what is found of a text is said by it
abbrev pub Finding : List ℕ → Option Datetime → Type 0
Finding s (Some d) = Said s d
Finding s None = Unit {0}

-- what is found with a time behind the day is derived
pub data Timed (s : List ℕ) : Datetime → Type 0 where
  timed : {d : Datetime} {t : Time} → d.time ≡ Some t → Point s d → Timed s d

abbrev pub FindingTimed : List ℕ → Option Datetime → Type 0
FindingTimed s (Some d) = Timed s d
FindingTimed s None = Unit {0}

-- a field that is counted from zero
from_zero : {c last n : ℕ} → n ≤ last → Field c 0 last (c ∷ digits 2 n) n
from_zero {c} {last} {n} h = subst (λ (k : ℕ). Field c 0 last (c ∷ digits 2 k) n) (zero-add n) (field n (omega arith))

-- the text behind a year, a month and a day
module _ (s : List ℕ) where
  pub ended : (n : ℕ) → length s ≡ n → drop n s ≡ []
  ended n e = drop_of_length-le s {i = n} (omega arith)

  pub year-text : 4 ≤ length s → year_of s < 10000 → s ≡ digits 4 (year_of s) ++ drop 4 s
  unfolding year_of
  year-text n h = spelled 4 0 s (omega arith) ∙ ap (λ (t : List ℕ). t ++ drop 4 s) (four_are (get_or s 0 0) (get_or s 1 0) (get_or s 2 0) (get_or s 3 0) h)

  pub field-text : (i : ℕ) {c n : ℕ} → 3 + i ≤ length s → Part s i c n → drop i s ≡ (c ∷ digits 2 n) ++ drop (3 + i) s
  field-text i l p = spelled 3 i s l ∙ ap (λ (t : List ℕ). t ++ drop (3 + i) s) (cons_same p.sign (same i ∙ p.number))
    where
      same : (i : ℕ) → bytes_at 2 (suc i) s ≡ get_or s (i + 1) 0 ∷ get_or s (i + 2) 0 ∷ []
      same i = ap (λ (k : ℕ). bytes_at 2 k s) (one i) ∙ ap (λ (k : ℕ). get_or s (i + 1) 0 ∷ get_or s k 0 ∷ []) (two-more i)
        where
          one : (i : ℕ) → suc i ≡ i + 1
          one i = omega arith

          two-more : (i : ℕ) → suc (i + 1) ≡ i + 2
          two-more i = omega arith

  pub part-text : (i : ℕ) → 3 + i ≤ length s → part_at s i < 99 → drop i s ≡ part_text (part_at s i) ++ drop (3 + i) s
  unfolding part_text
  part-text i n h = field-text i n (part-are s i h)

  -- a day, and what stands behind it
  day-text : 10 ≤ length s → year_of s < 10000 → part_at s 4 < 12 → part_at s 7 < month_length (part_at s 4) (pos (year_of s))
      → s ≡ digits 4 (year_of s) ++ (part_text (part_at s 4) ++ (part_text (part_at s 7) ++ drop 10 s))
  day-text n h m d =
      let l = length_most (part_at s 4) (pos (year_of s)) in
      year-text (omega arith) h
      ∙ ap (λ (t : List ℕ). digits 4 (year_of s) ++ t)
      (part-text 4 (omega arith) (omega arith) ∙ ap (λ (t : List ℕ). part_text (part_at s 4) ++ t) (part-text 7 (omega arith) (omega (arith, l, d))))

  year-said : length s ≡ 4 → year_of s < 10000 → Said s (datetime (pos (year_of s)) None None None)
  unfolding canonical year_text month_text
  year-said n h =
      record {
        text_is = year-text (omega arith) h ∙ ap (λ (t : List ℕ). digits 4 (year_of s) ++ t) (ended 4 n);
        end_in = record { year_in = h; parts_in = tt; untimed = refl; unseasoned = refl };
      }

  month-said : length s ≡ 7 → year_of s < 10000 → part_at s 4 < 12 → Said s (datetime (pos (year_of s)) (month (part_at s 4)) None None)
  unfolding canonical year_text month_text day_text
  month-said n h m =
      record {
        text_is =
            year-text (omega arith) h
            ∙ ap (λ (t : List ℕ). digits 4 (year_of s) ++ t) (part-text 4 (omega arith) (omega arith) ∙ ap (λ (t : List ℕ). part_text (part_at s 4) ++ t) (ended 7 n));
        end_in = record { year_in = h; parts_in = m; untimed = refl; unseasoned = refl };
      }

  day-said : length s ≡ 10 → year_of s < 10000 → part_at s 4 < 12 → part_at s 7 < month_length (part_at s 4) (pos (year_of s))
      → Said s (datetime (pos (year_of s)) (month (part_at s 4)) (day (part_at s 7)) None)
  unfolding canonical year_text month_text day_text
  day-said n h m d =
      record {
        text_is =
            day-text (omega arith) h m d
            ∙ ap (λ (t : List ℕ). digits 4 (year_of s) ++ (part_text (part_at s 4) ++ t))
            (ap (λ (t : List ℕ). part_text (part_at s 7) ++ t) (ended 10 n) ∙ append-nil (part_text (part_at s 7)));
        end_in = record { year_in = h; parts_in = (m, d); untimed = refl; unseasoned = refl };
      }

  -- dddd-mm-dd at the front, by what its tests say
  day-found : (P : Option Datetime → Type 0) (t : Option Time) → P None
      → (year_of s < 10000 → part_at s 4 < 12 → part_at s 7 < month_length (part_at s 4) (pos (year_of s)) → P (Some (datetime (pos (year_of s)) (month (part_at s 4)) (day (part_at s 7)) t)))
      → P (day_point s t)
  unfolding day_point
  day-found P t n f =
      by-test P (ltb (year_of s) 10000 && (ltb (part_at s 4) 12 && ltb (part_at s 7) (month_length (part_at s 4) (pos (year_of s)))))
      (λ h.
      let p = and-true (ltb (year_of s) 10000) _ h in
      let q = and-true (ltb (part_at s 4) 12) _ p.1 in
      f (ltb-true _ _ p.0) (ltb-true _ _ q.0) (ltb-true _ _ q.1))
      (λ h. n)

  -- a usual point is the text of the Datetime that is found
  pub finding : Finding s (point_of s)
  unfolding point_of year_point month_point
  finding =
      by-test (Finding s) (eqb (length s) 4)
      (λ n. by-test (Finding s) (ltb (year_of s) 10000) (λ h. year-said (eqb-true _ 4 n) (ltb-true _ _ h)) (λ h. tt))
      (λ _.
      by-test (Finding s) (eqb (length s) 7)
      (λ n.
      by-test (Finding s) (ltb (year_of s) 10000 && ltb (part_at s 4) 12)
      (λ h. let p = and-true (ltb (year_of s) 10000) _ h in month-said (eqb-true _ 7 n) (ltb-true _ _ p.0) (ltb-true _ _ p.1))
      (λ h. tt))
      (λ _.
      by-test (Finding s) (eqb (length s) 10)
      (λ n. day-found (Finding s) None tt (day-said (eqb-true _ 10 n)))
      (λ _. tt)))

-- ---- the time behind a day

-- what stands behind the seconds is derived, and the text is long enough for them
abbrev Zoned : List ℕ → Option (Option TimeOffset) → Type 0
Zoned s (Some o) = Zone (drop 19 s) o × (19 ≤ length s)
Zoned s None = Unit {0}

-- a time likewise, which there is
data Clocked (s : List ℕ) : Option Time → Type 0 where
  clocked : {t : Time} → Clock (drop 10 s) (Some t) → 10 ≤ length s → Clocked s (Some t)

abbrev Timing : List ℕ → Option (Option Time) → Type 0
Timing s (Some t) = Clocked s t
Timing s None = Unit {0}

module _ (s : List ℕ) where
  -- a byte and two digits behind it, of a number below a bound
  pub below : (i c last : ℕ) → get_or s i 0 ≡ c → two_at s (i + 1) < last → last ≤ 100 → Part s i c (two_at s (i + 1))
  below i c last e h l =
      record { sign = e; number = ap (λ (k : ℕ). get_or s (i + 1) 0 ∷ get_or s k 0 ∷ []) (one_more i) ∙ two-are _ _ (omega arith) }
    where
      one_more : (i : ℕ) → i + 2 ≡ i + 1 + 1
      one_more i = omega arith

  -- hh:mm behind a sign
  shift-text : (c : ℕ) → get_or s 19 0 ≡ c → length s ≡ 25 → two_at s 20 < 24 → get_or s 22 0 ≡ 58 → two_at s 23 < 60
      → drop 19 s ≡ (c ∷ digits 2 (two_at s 20)) ++ (58 ∷ digits 2 (two_at s 23))
  shift-text c e l h k m =
      field-text s 19 (omega arith) (below 19 c 24 e h (omega arith))
      ∙ ap (λ (t : List ℕ). (c ∷ digits 2 (two_at s 20)) ++ t)
      (field-text s 22 (omega arith) (below 22 58 60 k m (omega arith))
      ∙ ap (λ (t : List ℕ). (58 ∷ digits 2 (two_at s 23)) ++ t) (ended s 25 l) ∙ append-nil (58 ∷ digits 2 (two_at s 23)))

  shift-zone : (positive : Bool) (c : ℕ)
      → ((u v : List ℕ) (h m : ℕ) → Field c 0 23 u h → Field 58 0 59 v m → Zone (u ++ v) (Some (Offset positive h m)))
      → get_or s 19 0 ≡ c → length s ≡ 25 → Zoned s (shift_by positive s)
  unfolding shift_by is_shift
  shift-zone positive c make e l =
      by-test (Zoned s) (ltb (two_at s 20) 24 && (eqb (get_or s 22 0) 58 && ltb (two_at s 23) 60))
      (λ t.
      let p = and-true (ltb (two_at s 20) 24) _ t in
      let q = and-true (eqb (get_or s 22 0) 58) _ p.1 in
      let h = ltb-true (two_at s 20) 24 p.0 in
      let m = ltb-true (two_at s 23) 60 q.1 in
      (subst (λ (u : List ℕ). Zone u (Some (Offset positive (two_at s 20) (two_at s 23)))) (sym (shift-text c e l h (eqb-true _ 58 q.0) m)) (make _ _ (two_at s 20) (two_at s 23) (from_zero (omega arith)) (from_zero (omega arith))), omega arith))
      (λ _. tt)

  zoned : Zoned s (zone_of s)
  unfolding zone_of
  zoned =
      by-test (Zoned s) (eqb (length s) 19)
      (λ n. let l = eqb-true (length s) 19 n in (subst (λ (u : List ℕ). Zone u None) (sym (ended s 19 l)) no_zone, omega arith))
      (λ _.
      by-test (Zoned s) (eqb (length s) 20)
      (λ n.
      let l = eqb-true (length s) 20 n in
      by-test (Zoned s) (eqb (get_or s 19 0) 90)
      (λ e. (subst (λ (u : List ℕ). Zone u (Some Utc)) (sym (spelled 1 19 s (omega arith) ∙ cons_same (eqb-true _ 90 e) (ended s 20 l))) z, omega arith))
      (λ _. tt))
      (λ _.
      by-test (Zoned s) (eqb (length s) 25)
      (λ n.
      let l = eqb-true (length s) 25 n in
      by-test (Zoned s) (eqb (get_or s 19 0) 43)
      (λ e. shift-zone true 43 (λ u v h m f g. ahead f g) (eqb-true _ 43 e) l)
      (λ _. by-test (Zoned s) (eqb (get_or s 19 0) 45) (λ e. shift-zone false 45 (λ u v h m f g. behind f g) (eqb-true _ 45 e) l) (λ _. tt)))
      (λ _. tt)))

  clock-text : is_clock s ≡ true → 19 ≤ length s → {o : Option TimeOffset} → Zone (drop 19 s) o
      → Clock (drop 10 s) (Some (time (two_at s 11) (two_at s 14) (two_at s 17) o))
  unfolding is_clock
  clock-text t l {o} zone =
      let a = and-true (eqb (get_or s 10 0) 84) _ t in
      let b = and-true (ltb (two_at s 11) 24) _ a.1 in
      let c = and-true (eqb (get_or s 13 0) 58) _ b.1 in
      let d = and-true (ltb (two_at s 14) 60) _ c.1 in
      let e = and-true (eqb (get_or s 16 0) 58) _ d.1 in
      let h = ltb-true (two_at s 11) 24 b.0 in
      let m = ltb-true (two_at s 14) 60 d.0 in
      let n = ltb-true (two_at s 17) 60 e.1 in
      subst (λ (u : List ℕ). Clock u (Some (time (two_at s 11) (two_at s 14) (two_at s 17) o)))
      (sym
      (field-text s 10 (omega arith) (below 10 84 24 (eqb-true _ 84 a.0) h (omega arith))
      ∙ ap (λ (u : List ℕ). (84 ∷ digits 2 (two_at s 11)) ++ u)
      (field-text s 13 (omega arith) (below 13 58 60 (eqb-true _ 58 c.0) m (omega arith))
      ∙ ap (λ (u : List ℕ). (58 ∷ digits 2 (two_at s 14)) ++ u) (field-text s 16 (omega arith) (below 16 58 60 (eqb-true _ 58 e.0) n (omega arith))))))
      (hh:mm:ss (from_zero (omega arith)) (from_zero (omega arith)) (from_zero (omega arith)) zone)

  timing : Timing s (time_of s)
  unfolding time_of
  timing =
      by-test (Timing s) (is_clock s)
      (λ t. by-some (Timing s) (zone_of s) tt λ o e. let p = subst (Zoned s) e zoned in let l = p.1 in clocked (clock-text t l p.0) (omega arith))
      (λ _. tt)

  -- a day with a time is derived
  day-derived : {t : Time} → Clock (drop 10 s) (Some t) → 10 ≤ length s → FindingTimed s (day_point s (Some t))
  unfolding part_text
  day-derived {t} c l =
      day-found s (FindingTimed s) (Some t) tt λ h m d.
      timed {t = t} refl
      (subst (λ (u : List ℕ). Point u (datetime (pos (year_of s)) (month (part_at s 4)) (day (part_at s 7)) (Some t))) (sym (day-text s l h m d))
      (point (dddd (year_of s) h) (-mm (field (part_at s 4) (omega arith)) (-dd (field (part_at s 7) (omega (arith, d))) c))))

  pub finding-timed : (t : Option Time) → time_of s ≡ Some t → FindingTimed s (day_point s t)
  finding-timed t e = go (subst (Timing s) e timing)
    where
      go : {t : Option Time} → Clocked s t → FindingTimed s (day_point s t)
      go (clocked c l) = day-derived c l
