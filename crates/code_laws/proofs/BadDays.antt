-- A text of the form of a day that is no date: where the ported reader refuses it, alone and behind a slash.
-- Assumes nothing.
use mathlib.Core.Path.{◌≡◌, refl, sym, ap, ◌∙◌, subst}
use mathlib.Core.Bool.{true, false, false≢true, ◌&&◌, ◌||◌}
use mathlib.Core.List.{List, [], ◌∷◌, ◌++◌, append-nil}
use mathlib.Core.Logic.{◌⊎◌, ⊎_elim, inl, inr}
use Prim.Native.Nat.{ℕ, ◌+◌, ◌-◌, ◌/◌, ◌%◌, ◌≤◌, ◌<◌}
use native.Mathlib.Nat.{add-zero}
use native.Mathlib.Omega.{arith}
use borrow.Author.Tests.{eqb-true, eqb-false, ltb-true, ltb-false}
use lib.Dec.{eqb, ltb, lit≤}
use lib.IntN.{ℤ, pos}
use lib.ListN.{length, get_or, take, drop, length-drop}
use lib.Seq.{length-take-le}
use Rattle.chars.proofs.Cases.{by-test, of_test, and-true}
use Rattle.scanner.proofs.Front.{From, from_start, from-behind, front_rest}
use Rattle.refusals.specs.declared.Kind.{Kind}
use Rattle.refusals.specs.declared.Kind.TheVariants.{MonthOutOfRange, DayOutOfRange}
use Rattle.refusals.specs.declared.TextRefusal.{TextRefusal}
use Rattle.dates.specs.declared.Date.{Date}
use Rattle.refusals.specs.declared.Refusal.{Refusal}
use Rattle.scanner.specs.declared.Cursor.{Cursor}
use Rattle.std.specs.Prelude.{Some, None, Result, Ok, Err, Option}
use Rattle.refusals.specs.Refusal.{has_place}
use Rattle.refusals.specs.Offset.{text_refusal, offset}
use Rattle.refusals.proofs.Sums.{second_fits}
use Rattle.numbers.specs.Number.{admits}
use Rattle.numbers.specs.declared.Digits.TheVariants.{OneOrTwo}
use Rattle.numbers.proofs.Reading.{bytes, Behind, end, hyphen, number_read}
use Rattle.dates.specs.declared.Month.{Month}
use Rattle.dates.specs.declared.Datetime.{Datetime}
use Rattle.dates.specs.Calendar.{month_length}
use Rattle.dates.specs.Value.{datetime}
use Rattle.points.specs.Step.{refuse_number, stored_part, part_at, month_at, day_at, on_part, on_separator}
use Rattle.points.specs.Point.{behind_month, behind_year, point}
use Rattle.points.proofs.Back.{two, four, two_digits, four_digits, two-value, part_bytes, plain-year, on-year, hyphen-read, or-more, month_read, two-behind, point-past}
use Rattle.strict.specs.Digits.{digits}
use Rattle.roundtrip_laws.proofs.Bytes.{PointText, Piece, joined, bytes-piece, minus-in, alone-text, between-text}
use Rattle.roundtrip_laws.proofs.Bytes.Each.{more}
use Rattle.roundtrip_laws.proofs.Values.{alone-value, between-value}
use Rattle.roundtrip_laws.proofs.Points.{point-read, point-text}
use Rattle.datefield.specs.Value.{moved, on_half, marked}
use Rattle.strict.specs.Grammar.{Point as Derived}
use Rattle.strict.proofs.Written.{derived}
use Rattle.codes.specs.Points.{two_at, year_of, on_some, point_of}
use Rattle.codes.specs.Texts.{is_slash}
use Rattle.codes.specs.Ported.{refused_at, moved_by, bad_parts, is_day_form, bad_day, bad_range}
use Rattle.code_laws.proofs.Points.{Said, Finding, finding, ended, year-text, field-text, below}
use Rattle.code_laws.proofs.Texts.{slash-text}
use Rattle.code_laws.proofs.Says.{Early, Near, Says, Saying, place-moves, place-near, of-text}

-- a written number that is none from 1 to the highest, or is one
out_of : (n top : ℕ) → eqb n 0 || ltb top n ≡ true → (n < 1) ⊎ (top < n)
out_of n top e =
    of_test (eqb n 0) (λ z. let y = eqb-true n 0 z in inl (omega arith)) (λ z. let f : ltb top n ≡ true = rw z at e in inr (ltb-true top n f))

within_of : (n top : ℕ) → eqb n 0 || ltb top n ≡ false → (1 ≤ n) × (n ≤ top)
within_of n top e =
    of_test (eqb n 0) (λ z. absurd (false≢true (sym (rw z at e))))
    (λ z. let f : ltb top n ≡ false = rw z at e in let k = eqb-false n 0 z in let l = ltb-false top n f in (omega arith, omega arith))

-- two digits that are such a number are refused where they stand
two-admitted : admits OneOrTwo 2 ≡ true
unfolding admits
two-admitted = refl

part-bad : (n high : ℕ) (k : Kind) {s t : List ℕ} {i : ℕ} → n < 100 → (n < 1) ⊎ (high < n) → Behind t → From s i (bytes (two n) ++ t) → part_at s i 1 high k ≡ Err (text_refusal k i (i + 2))
unfolding part_at stored_part refuse_number
part-bad n high k {s} {t} {i} h o b f =
    rw (number_read (n / 10 % 10) ((n % 10) ∷ []) (two_digits n) b f OneOrTwo two-admitted, two-value n h)
    (by-test P (ltb n 1) (λ _. refl) (λ x. by-test P (ltb high n) (λ _. refl) (λ y. let l = ltb-false n 1 x in let m = ltb-false high n y in absurd (⊎_elim (λ z. omega arith) (λ z. omega arith) o))))
  where
    P : Result (ℕ × Cursor) TextRefusal → Type 0
    P r = r ≡ Err (text_refusal k i (i + 2))

month-bad : (y : ℤ) (n : ℕ) {s t : List ℕ} {i : ℕ} → n < 100 → (n < 1) ⊎ (12 < n) → Behind t → From s i (0x2D ∷ bytes (two n) ++ t) → behind_year s i y ≡ Err (text_refusal MonthOutOfRange (i + 1) (i + 1 + 2))
unfolding behind_year month_at on_separator on_part
month-bad y n h o b f =
    rw (
      or-more {A = Result Datetime TextRefusal} (Ok (datetime y None None None)) _ hyphen f,
      hyphen-read (n / 10 % 10) (omega arith) f,
      part-bad n 12 MonthOutOfRange h o b (front_rest f),
    )

day-bad : (y : ℤ) (m : Month) (n : ℕ) {s t : List ℕ} {i : ℕ} → n < 100 → (n < 1) ⊎ (31 < n) → Behind t → From s i (0x2D ∷ bytes (two n) ++ t) → behind_month s i y m ≡ Err (text_refusal DayOutOfRange (i + 1) (i + 1 + 2))
unfolding behind_month day_at on_separator on_part
day-bad y m n h o b f =
    rw (
      or-more {A = Result Datetime TextRefusal} (Ok (datetime y (Some m) None None)) _ hyphen f,
      hyphen-read (n / 10 % 10) (omega arith) f,
      part-bad n 31 DayOutOfRange h o b (front_rest f),
    )

-- dddd-dd-dd, by its three numbers
abbrev day_form : ℕ → ℕ → ℕ → List ℕ
day_form y m d = bytes (four y) ++ ((0x2D ∷ bytes (two m)) ++ (0x2D ∷ bytes (two d)))

form-text : (y m d : ℕ) → PointText (day_form y m d)
form-text y m d =
    let p = joined (bytes-piece (four y) (four_digits y)) (joined (part m) (part d)) in
    record { in_point = p.in_point; long = omega arith; short = omega arith }
  where
    part : (n : ℕ) → Piece 3 (0x2D ∷ bytes (two n))
    part n = let b = bytes-piece (two n) (two_digits n) in record { in_point = more minus-in b.in_point; short = omega arith }

-- written from one, stored from zero
stored_one : (n : ℕ) → 1 ≤ n → n - 1 + 1 ≡ n
stored_one n h = omega arith

module _ (y m d : ℕ) (h : y < 10000) where
  behind-year : point (day_form y m d) ≡ behind_year (day_form y m d) 4 (pos y)
  behind-year = on-year (day_form y m d) (plain-year y h hyphen (from_start (day_form y m d)))

  at-month : From (day_form y m d) 4 ((0x2D ∷ bytes (two m)) ++ (0x2D ∷ bytes (two d)))
  at-month = from-behind (bytes (four y)) (from_start (day_form y m d))

  at-day : From (day_form y m d) 7 (0x2D ∷ bytes (two d))
  at-day = two-behind at-month

  bad-month : m < 100 → (m < 1) ⊎ (12 < m) → point (day_form y m d) ≡ Err (text_refusal MonthOutOfRange 5 7)
  bad-month l o = behind-year ∙ month-bad (pos y) m l o hyphen at-month

  bad-number : (1 ≤ m) × (m ≤ 12) → d < 100 → (d < 1) ⊎ (31 < d) → point (day_form y m d) ≡ Err (text_refusal DayOutOfRange 8 10)
  bad-number w l o =
      behind-year
      ∙ month_read (pos y) (m - 1) (omega (arith, w.0, w.1)) hyphen (subst (λ (n : ℕ). From (day_form y m d) 4 ((0x2D ∷ bytes (two n)) ++ (0x2D ∷ bytes (two d)))) (sym (stored_one m w.0)) at-month)
      ∙ day-bad (pos y) (record { 0 = m - 1 }) d l o end at-day

  bad-past : (1 ≤ m) × (m ≤ 12) → (1 ≤ d) × (d ≤ 31) → month_length (m - 1) (pos y) ≤ d - 1 → point (day_form y m d) ≡ Err (text_refusal DayOutOfRange 0 10)
  bad-past w v l =
      ap point
      (ap (λ (n : ℕ). bytes (four y) ++ ((0x2D ∷ bytes (two n)) ++ (0x2D ∷ bytes (two d)))) (sym (stored_one m w.0))
      ∙ ap (λ (n : ℕ). bytes (four y) ++ (part_bytes (m - 1) ++ (0x2D ∷ bytes (two n)))) (sym (stored_one d v.0)))
      ∙ point-past (pos y) (m - 1) (d - 1) h (omega (arith, w.0, w.1)) (omega (arith, v.0, v.1)) l

-- a point's text that is refused, and what is said of it where it begins at a place
pub record Refuses (s : List ℕ) (at : ℕ) (r : Result Date Refusal) : Type 0 where
  pub of_point : PointText s
  pub refused : TextRefusal
  pub point_is : point s ≡ Err refused
  pub moves : (start amount : ℕ) → amount ≡ start + at → Early start → Err (offset refused amount) ≡ moved_by start r
  pub near : Near r

abbrev pub Refusing : List ℕ → ℕ → Option (Result Date Refusal) → Type 0
Refusing s at None = Unit {0}
Refusing s at (Some r) = Refuses s at r

module _ {s : List ℕ} (t : PointText s) (k : Kind) (p : has_place k ≡ true) (at a b c d : ℕ) (e : a + at ≡ c) (f : b + at ≡ d) (h : c ≤ 100) (l : d ≤ 100) where
  refuses : point s ≡ Err (text_refusal k a b) → Refuses s at (refused_at k c d)
  refuses g =
      record {
        of_point = t;
        refused = text_refusal k a b;
        point_is = g;
        moves = λ start amount j i. place-moves k p c d h l start a b amount i (omega arith) (omega arith);
        near = place-near k p c d h l;
      }

bad-parts : (at y m d : ℕ) → at ≤ 90 → y < 10000 → m < 100 → d < 100 → Refusing (day_form y m d) at (bad_parts at y m d)
unfolding bad_parts
bad-parts at y m d q h l k =
    let t = form-text y m d in
    let R = Refusing (day_form y m d) at in
    by-test R (eqb m 0 || ltb 12 m)
    (λ e. refuses t MonthOutOfRange refl at 5 7 (at + 5) (at + 7) (omega arith) (omega arith) (omega arith) (omega arith) (bad-month y m d h l (out_of m 12 e)))
    (λ e.
    let w = within_of m 12 e in
    by-test R (eqb d 0 || ltb 31 d)
    (λ f. refuses t DayOutOfRange refl at 8 10 (at + 8) (at + 10) (omega arith) (omega arith) (omega arith) (omega arith) (bad-number y m d h w k (out_of d 31 f)))
    (λ f.
    let v = within_of d 31 f in
    by-test R (ltb (d - 1) (month_length (m - 1) (pos y))) (λ _. tt)
    (λ g. refuses t DayOutOfRange refl at 0 10 at (at + 10) (omega arith) (omega arith) (omega arith) (omega arith) (bad-past y m d h w v (ltb-false _ _ g)))))

-- in a text of that form
pub bad-day : (s : List ℕ) (at : ℕ) → at ≤ 90 → length s ≡ 10 → Refusing s at (bad_day at s)
unfolding bad_day is_day_form
bad-day s at q n =
    by-test (Refusing s at)
    (ltb (year_of s) 10000 && (eqb (get_or s 4 0) 0x2D && (ltb (two_at s 5) 100 && (eqb (get_or s 7 0) 0x2D && ltb (two_at s 8) 100))))
    (λ t.
    let a = and-true (ltb (year_of s) 10000) _ t in
    let b = and-true (eqb (get_or s 4 0) 0x2D) _ a.1 in
    let c = and-true (ltb (two_at s 5) 100) _ b.1 in
    let d = and-true (eqb (get_or s 7 0) 0x2D) _ c.1 in
    let h = ltb-true (year_of s) 10000 a.0 in
    let l = ltb-true (two_at s 5) 100 c.0 in
    let k = ltb-true (two_at s 8) 100 d.1 in
    let e : s ≡ day_form (year_of s) (two_at s 5) (two_at s 8) =
    year-text s (omega arith) h
    ∙ ap (λ (u : List ℕ). digits 4 (year_of s) ++ u)
    (field-text s 4 (omega arith) (below s 4 0x2D 100 (eqb-true _ 0x2D b.0) l (lit≤ tt))
    ∙ ap (λ (u : List ℕ). (0x2D ∷ digits 2 (two_at s 5)) ++ u)
    (field-text s 7 (omega arith) (below s 7 0x2D 100 (eqb-true _ 0x2D d.0) k (lit≤ tt))
    ∙ ap (λ (u : List ℕ). (0x2D ∷ digits 2 (two_at s 8)) ++ u) (ended s 10 n) ∙ append-nil (0x2D ∷ digits 2 (two_at s 8))))
    in
    subst (λ (u : List ℕ). Refusing u at (bad_parts at (year_of s) (two_at s 5) (two_at s 8))) (sym e) (bad-parts at (year_of s) (two_at s 5) (two_at s 8) q h l k))
    (λ _. tt)

refused_says : {s : List ℕ} {r : Result Date Refusal} → Refuses s 0 r → Says s r
unfolding marked moved on_half
refused_says {s} {r} f =
    of-text (alone-text f.of_point) (λ span h. rw (alone-value span f.of_point, f.point_is) (f.moves span.0 span.0 (sym (add-zero span.0)) h)) f.near

-- alone
pub bad-says : (s : List ℕ) → length s ≡ 10 → Saying s (bad_day 0 s)
bad-says s n = alone (bad_day 0 s) (bad-day s 0 (lit≤ tt) n)
  where
    alone : (x : Option (Result Date Refusal)) → Refusing s 0 x → Saying s x
    alone None f = tt
    alone (Some r) f = refused_says f

-- behind a point and a slash: the place moves by both
second-says : {u v : List ℕ} {d : Datetime} {r : Result Date Refusal} → Said u d → Refuses v (length u + 1) r → Says (u ++ 0x2F ∷ v) r
unfolding marked moved on_half
second-says {u} {v} {d} {r} a f =
    let x : Derived u d = subst (λ (l : List ℕ). Derived l d) (sym a.text_is) (derived d a.end_in) in
    let p = point-text x in
    let q = f.of_point in
    of-text (between-text p q)
    (λ span h.
    rw (between-value span p q, point-read x, f.point_is, second_fits f.refused span.0 (length u) (omega (arith, p.short)))
    (f.moves span.0 (span.0 + length u + 1) (omega arith) h))
    f.near

module _ (s : List ℕ) (k : ℕ) (h : k ≤ 80) (t : is_slash s k ≡ true) (n : length s ≡ k + 11) where
  before : length (take k s) ≡ k
  before = length-take-le k s (omega arith)

  behind : length (drop (k + 1) s) ≡ 10
  behind = let l = length-drop (k + 1) s in omega arith

  range-says : {d : Datetime} → Said (take k s) d → (x : Option (Result Date Refusal)) → Refusing (drop (k + 1) s) (k + 1) x → Saying s x
  range-says a None f = tt
  range-says a (Some r) f =
      subst (λ (u : List ℕ). Says u r) (slash-text s k t) (second-says a (subst (λ (i : ℕ). Refuses (drop (k + 1) s) (i + 1) r) (sym before) f))

  half-says : (x : Option Datetime) → Finding (take k s) x → Saying s (on_some x λ d. bad_day (k + 1) (drop (k + 1) s))
  unfolding on_some
  half-says None f = tt
  half-says (Some d) f = range-says f (bad_day (k + 1) (drop (k + 1) s)) (bad-day (drop (k + 1) s) (k + 1) (omega arith) behind)

pub bad-range-says : (s : List ℕ) (k : ℕ) → k ≤ 80 → Saying s (bad_range s k)
unfolding bad_range
bad-range-says s k h =
    by-test (Saying s) (is_slash s k && eqb (length s) (k + 11))
    (λ t.
    let p = and-true (is_slash s k) _ t in
    half-says s k h p.0 (eqb-true _ _ p.1) (point_of (take k s)) (finding (take k s)))
    (λ _. tt)
