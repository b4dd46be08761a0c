-- Of which digits the years are that the ported reader reads: of two where a year is put into the window, else of four.
-- Assumes nothing.
use Prim.Native.Nat.{ℕ}
use mathlib.Core.Path.{◌≡◌, refl, sym, ap, subst, ◌∙◌}
use mathlib.Core.Bool.{Bool, true, false, false≢true, ◌||◌}
use mathlib.Core.List.{List}
use mathlib.Core.Logic.{◌↔◌, inl, inr, ⊎_elim}
use native.Mathlib.Omega.{arith}
use lib.IntN.{ℤ}
use Rattle.chars.specs.Pick.{pick}
use Rattle.chars.proofs.Cases.{by-test, of_test}
use Rattle.scanner.specs.declared.Class.TheVariants.{Whitespace, Is}
use Rattle.dates.specs.declared.Day.{Day}
use Rattle.dates.specs.declared.Time.{Time}
use Rattle.numbers.specs.declared.NoNumber.{NoNumber}
use Rattle.numbers.specs.declared.NoNumber.TheVariants.{Panics, Wrong}
use Rattle.scanner.specs.declared.Cursor.{Cursor}
use Rattle.std.specs.Prelude.{Option, Some, None, Result, Ok, Err}
use Rattle.scanner.specs.Scan.{eat_while, eat_if}
use Rattle.refusals.specs.declared.FileSpan.{FileSpan}
use Rattle.refusals.specs.Offset.{offset, offset_second}
use Rattle.refusals.specs.declared.Refusal.{Refusal}
use Rattle.refusals.specs.declared.TextRefusal.{TextRefusal}
use Rattle.numbers.specs.declared.Digits.TheVariants.{Two, Four}
use Rattle.numbers.specs.Number.{parse_int}
use Rattle.dates.specs.Value.{datetime, date, day}
use Rattle.dates.specs.declared.Month.{Month}
use Rattle.dates.specs.declared.Date.{Date}
use Rattle.dates.specs.declared.Datetime.{Datetime}
use Rattle.dates.specs.declared.DateValue.{DateValue}
use Rattle.dates.specs.declared.DateValue.TheVariants.{At, After, Before, Between}
use Rattle.chunks.specs.Chunks.{chunks_of, span_of}
use Rattle.chunks.specs.Check.{checked}
use Rattle.points.specs.Step.{month_at, day_at, hyphen_at, on_part, on_separator, or_end}
use Rattle.points.specs.Point.{windowed, windowed_int, short_year, long_of, long_year, short_or, year_at, on_year, with_time, time_or, behind_day, behind_month, behind_year, point}
use Rattle.points.specs.Time.{time_at}
use Rattle.datefield.specs.Text.{first_of, is_open}
use Rattle.datefield.specs.Value as field
use Rattle.reading_laws.specs.Field.{parsed}
use Rattle.verdicts.specs.Dates.{cell_table}
use Rattle.verdicts.specs.Windows.{stands, has_x, is_int, begins_two, is_windowed}
use Rattle.verdicts.specs.Century.{text_read, half_before, half_behind, puts_point, puts_half, puts_year, TwoDigits, two, FourDigits, four, EachYear, SomeYear}
use Rattle.verdicts.proofs.SixMeans.{or-false}
use Rattle.verdicts.proofs.Fronts.{not-both}
use Rattle.verdicts.proofs.Windowed.{or-none, point-two, windowed-clean, x-clean, of-clean}

-- ---- a point has the year that it begins with

-- what is read of a point has this year, or is refused
data HasYear (y : ℤ) : Result Datetime TextRefusal → Type 0 where
  has_year : {d : Datetime} → d.year ≡ y → HasYear y (Ok d)
  refused : {e : TextRefusal} → HasYear y (Err e)

module _ (y : ℤ) where
  or-end : (s : List ℕ) (at : ℕ) {r : Result Datetime TextRefusal} {go : ℕ → Result Datetime TextRefusal} → HasYear y r → ((a : ℕ) → HasYear y (go a)) → HasYear y (or_end s at r go)
  unfolding or_end
  or-end s at e g = by-test (HasYear y) _ (λ _. e) (λ _. g (eat_while Whitespace s at))

  on-separator : (r : Result Cursor TextRefusal) {go : ℕ → Result Datetime TextRefusal} → ((a : ℕ) → HasYear y (go a)) → HasYear y (on_separator Err r go)
  unfolding on_separator
  on-separator (Ok c) g = g c.0
  on-separator (Err e) g = refused

  on-part : (r : Result (ℕ × Cursor) TextRefusal) {go : ℕ → ℕ → Result Datetime TextRefusal} → ((v a : ℕ) → HasYear y (go v a)) → HasYear y (on_part Err r go)
  unfolding on_part
  on-part (Ok (v, c)) g = g v c.0
  on-part (Err e) g = refused

  with-time : (m : Option Month) (d : Option Day) (r : Result Time TextRefusal) → HasYear y (with_time y m d r)
  unfolding with_time
  with-time m d (Ok t) = has_year {d = datetime y m d (Some t)} refl
  with-time m d (Err e) = refused

  time-or : (s : List ℕ) (a : ℕ) (m : Option Month) (d : Option Day) (r : Option Cursor) → HasYear y (time_or s a y m d r)
  unfolding time_or
  time-or s a m d (Some c) = with-time m d (time_at s c.0)
  time-or s a m d None = refused

  behind-day : (s : List ℕ) (at : ℕ) (m : Option Month) (d : Option Day) → HasYear y (behind_day s at y m d)
  unfolding behind_day
  behind-day s at m d = or-end s at (has_year {d = datetime y m d None} refl) λ a. time-or s a m d (eat_if (Is 0x54) s a)

  behind-month : (s : List ℕ) (at : ℕ) (m : Month) → HasYear y (behind_month s at y m)
  unfolding behind_month
  behind-month s at m =
      or-end s at (has_year {d = datetime y (Some m) None None} refl) λ a.
      on-separator (hyphen_at s a) λ b.
      on-part (day_at s b) λ d next.
      by-test (HasYear y) _ (λ _. behind-day s next (Some m) (day d)) (λ _. refused)

  behind-year : (s : List ℕ) (at : ℕ) → HasYear y (behind_year s at y)
  unfolding behind_year
  behind-year s at =
      or-end s at (has_year {d = datetime y None None None} refl) λ a.
      on-separator (hyphen_at s a) λ b.
      on-part (month_at s b) λ m next.
      behind-month s next (record { 0 = m })

-- it is of two digits or of four, by whether it is put into the window
record OfDigits (s : List ℕ) (y : ℤ) : Type 0 where
  put : (puts_point s ≡ true) ↔ TwoDigits s y
  kept : (puts_point s ≡ false) ↔ FourDigits s y

-- two digits are put into it, and four are not
two-put : {s : List ℕ} {y : ℤ} → TwoDigits s y → puts_point s ≡ true
unfolding puts_point short_year windowed_int is_int
two-put (two e) = rw e

four-kept : {s : List ℕ} {y : ℤ} → FourDigits s y → puts_point s ≡ false
unfolding is_int begins_two
four-kept {s} (four e) = of_test (puts_point s) (λ t. absurd (not-both s (sym (point-two s) ∙ t) (rw e))) (λ t. t)

-- so it is with a point,
data Pointed (s : List ℕ) : Result Datetime TextRefusal → Type 0 where
  pointed : {d : Datetime} → OfDigits s d.year → Pointed s (Ok d)
  unpointed : {e : TextRefusal} → Pointed s (Err e)

of-year : (s : List ℕ) {y : ℤ} {r : Result Datetime TextRefusal} → OfDigits s y → HasYear y r → Pointed s r
of-year s g (has_year e) = pointed (subst (OfDigits s) (sym e) g)
of-year s g refused = unpointed

of_two : (s : List ℕ) {y : ℤ} → TwoDigits s y → OfDigits s y
of_two s w =
    record {
      put = (λ _. w, two-put);
      kept = (λ t. absurd (false≢true (sym t ∙ two-put w)), four-kept);
    }

of_four : (s : List ℕ) {y : ℤ} → FourDigits s y → OfDigits s y
of_four s f =
    record {
      put = (λ t. absurd (false≢true (sym (four-kept f) ∙ t)), two-put);
      kept = (λ _. f, four-kept);
    }

by-years : (s : List ℕ) (a b : Result (ℤ × Cursor) NoNumber) → parse_int s 0 Two ≡ a → parse_int s 0 Four ≡ b → Pointed s (on_year (short_or (windowed_int a) (long_of 0 b)) (λ y next. behind_year s next y))
unfolding on_year short_or windowed_int long_of
by-years s (Ok (v, c)) b e f = of-year s (of_two s (two e)) (behind-year (windowed v) s c.0)
by-years s (Err (Wrong c)) (Ok (y, n)) e f = of-year s (of_four s (four f)) (behind-year y s n.0)
by-years s (Err (Wrong c)) (Err (Wrong n)) e f = unpointed
by-years s (Err (Wrong c)) (Err Panics) e f = unpointed
by-years s (Err Panics) b e f = unpointed

point-digits : (s : List ℕ) → Pointed s (point s)
unfolding point year_at short_year long_year
point-digits s = by-years s (parse_int s 0 Two) (parse_int s 0 Four) refl refl

-- ---- a range has the years of its halves

-- with a half,
data Halved (s : List ℕ) : Result Datetime Refusal → Type 0 where
  halved : {d : Datetime} → OfDigits s d.year → Halved s (Ok d)
  unhalved : {e : Refusal} → Halved s (Err e)

moved-half : {s : List ℕ} {r : Result Datetime TextRefusal} (by : TextRefusal → Refusal) → Pointed s r → Halved s (field.moved r by)
unfolding field.moved
moved-half by (pointed g) = halved g
moved-half by unpointed = unhalved

-- the years of a value, where the test says whether one of the text is put into the window
record Told (put : Bool) (s : List ℕ) (v : DateValue) : Type 0 where
  some : (put ≡ true) ↔ SomeYear TwoDigits s v
  each : (put ≡ false) ↔ EachYear FourDigits s v

-- and with what is read of the text
data Valued (put : Bool) (s : List ℕ) : Result DateValue Refusal → Type 0 where
  valued : {v : DateValue} → Told put s v → Valued put s (Ok v)
  unvalued : {e : Refusal} → Valued put s (Err e)

or-true : (a b : Bool) → b ≡ true → a || b ≡ true
or-true true b e = refl
or-true false b e = e

module _ (s : List ℕ) where
  at-valued : {r : Result Datetime Refusal} → Halved s r → Valued (puts_point s) s (field.on_half r λ d. Ok (At d))
  unfolding field.on_half
  at-valued (halved {d} g) = valued {v = At d} (record { some = g.put; each = g.kept })
  at-valued unhalved = unvalued

  after-valued : {r : Result Datetime Refusal} → Halved (half_before s) r → Valued (puts_point (half_before s)) s (field.on_half r λ a. Ok (After a))
  unfolding field.on_half
  after-valued (halved {d} g) = valued {v = After d} (record { some = g.put; each = g.kept })
  after-valued unhalved = unvalued

  before-valued : {r : Result Datetime Refusal} → Halved (half_behind s) r → Valued (puts_point (half_behind s)) s (field.on_half r λ b. Ok (Before b))
  unfolding field.on_half
  before-valued (halved {d} g) = valued {v = Before d} (record { some = g.put; each = g.kept })
  before-valued unhalved = unvalued

  between-told : (a b : Datetime) → OfDigits (half_before s) a.year → OfDigits (half_behind s) b.year → Told (puts_point (half_before s) || puts_point (half_behind s)) s (Between a b)
  between-told a b g h =
      let p = puts_point (half_before s) in
      let q = puts_point (half_behind s) in
      record {
        some = (
          λ t. of_test p (λ u. inl (g.put.0 u)) (λ u. inr (h.put.0 (rw u at t))),
          λ t. ⊎_elim (λ u. rw (g.put.1 u)) (λ u. or-true p q (h.put.1 u)) t,
        );
        each = (
          λ t. let z = or-false p q t in (g.kept.0 z.0, h.kept.0 z.1),
          λ t. rw (g.kept.1 t.0, h.kept.1 t.1),
        );
      }

  between-valued : {r q : Result Datetime Refusal} → Halved (half_before s) r → Halved (half_behind s) q → Valued (puts_point (half_before s) || puts_point (half_behind s)) s (field.on_half r λ a. field.on_half q λ b. Ok (Between a b))
  unfolding field.on_half
  between-valued (halved {d = a} g) (halved {d = b} h) = valued {v = Between a b} (between-told a b g h)
  between-valued (halved g) unhalved = unvalued
  between-valued unhalved h = unvalued

  halves-valued : (span : FileSpan) → Valued (puts_half (half_before s) || puts_half (half_behind s)) s (field.halves span s (first_of 0x2F s))
  unfolding field.halves field.both_halves field.first_half field.second_half puts_half pick
  halves-valued span =
      let a = moved-half (λ e. offset e span.0) (point-digits (half_before s)) in
      let b = moved-half (λ e. offset_second e span.0 (first_of 0x2F s)) (point-digits (half_behind s)) in
      of_test (is_open (half_before s))
      (λ t. of_test (is_open (half_behind s)) (λ u. rw (t, u) unvalued) (λ u. rw (t, u) (before-valued b)))
      (λ t. of_test (is_open (half_behind s)) (λ u. rw (t, u, or-none (puts_point (half_before s))) (after-valued a)) (λ u. rw (t, u) (between-valued a b)))

  value-valued : (span : FileSpan) → stands 0x58 s ≡ false → Valued (puts_year s) s (field.value span s)
  unfolding field.value puts_year stands pick
  value-valued span e =
      rw e
      (of_test (stands 0x2F s) (λ t. rw t (halves-valued span))
      (λ t. rw t (at-valued (moved-half (λ e. offset e span.0) (point-digits s)))))

-- ---- what was accepted

-- the value of a Date that was accepted is the one that was read
pub of-marked : (u a : Bool) (r : Result DateValue Refusal) {d : Date} → field.marked u a r ≡ Ok d → r ≡ Ok d.value
unfolding field.marked
of-marked u a (Ok v) {d} e = let z : date v u a ≡ d = cc in ap (λ (x : Date). Ok x.value) z
of-marked u a (Err f) e = absurd (let z : ◌≡◌ {A = ℕ} 0 1 = cc in omega arith)

of-valued : {b : Bool} {s : List ℕ} {v : DateValue} → Valued b s (Ok v) → Told b s v
of-valued (valued t) = t

no_x : (s : List ℕ) → puts_year s ≡ true → stands 0x58 s ≡ false
unfolding puts_year pick
no_x s e = of_test (stands 0x58 s) (λ t. absurd (false≢true (rw t at e))) (λ t. t)

-- ---- the theorems

module _ (s : List ℕ) {d : Date} (e : parsed s (cell_table s) ≡ Ok d) where
  clean : checked s (cell_table s) ≡ Ok tt
  unfolding parsed
  clean = (of-clean (checked s (cell_table s)) e).0

  told : has_x s ≡ false → Told (is_windowed s) (text_read s) d.value
  unfolding parsed field.parse_text field.trimmed_date text_read
  told x =
      let r = of-marked _ _ _ (of-clean (checked s (cell_table s)) e).1 in
      let v = value-valued (text_read s) (span_of (chunks_of (cell_table s))) (sym (x-clean s clean) ∙ x) in
      subst (λ (b : Bool). Told b (text_read s) d.value) (sym (windowed-clean s clean)) (of-valued (subst (Valued (puts_year (text_read s)) (text_read s)) r v))

  not_x : is_windowed s ≡ true → has_x s ≡ false
  not_x w = x-clean s clean ∙ no_x (text_read s) (sym (windowed-clean s clean) ∙ w)

  -- Of a cell that the ported reader accepts it is said exactly if the cell has no X and one end's year is a number of two digits put into
  -- the window: the number that stands at the front of the end's text.
  pub windowed-two : (is_windowed s ≡ true) ↔ ((has_x s ≡ false) × SomeYear TwoDigits (text_read s) d.value)
  windowed-two = (λ w. let x = not_x w in (x, (told x).some.0 w), λ p. (told p.0).some.1 p.1)

  -- And if it has no X, it is not said exactly if each end's year is the number of four digits at the front of its text.
  pub windowed-four : has_x s ≡ false → (is_windowed s ≡ false) ↔ EachYear FourDigits (text_read s) d.value
  windowed-four x = (told x).each
