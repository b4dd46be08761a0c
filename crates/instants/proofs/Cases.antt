-- The order's answer for two Datetimes of the calendar without a time, counted: by the years, then the months, then the days.
-- Assumes nothing.
use mathlib.Core.Path.{◌≡◌, refl, sym, ap, subst}
use mathlib.Core.Bool.{true, false≢true}
use mathlib.Core.Logic.{inl, inr}
use Prim.Native.Nat.{ℕ, suc, ◌+◌, ◌≤◌, ◌<◌}
use native.Mathlib.Omega.{arith}
use borrow.Author.Tests.{ltb-true}
use lib.IntN.{ℤ, pos, negsuc}
use lib.Signed.{lt_z}
use Rattle.dates.specs.declared.Month.{Month}
use Rattle.dates.specs.declared.Day.{Day}
use Rattle.std.specs.Prelude.{Option, Some, None}
use Rattle.std.specs.declared.cmp.Ordering.{Ordering}
use Rattle.dates.specs.Domain.{PartsIn}
use Rattle.dates.specs.Value.{datetime}
use Rattle.dates.proofs.Lengths.{length_most}
use Rattle.dates.proofs.Months.{month-least}
use Rattle.days.specs.Days.{year_length}
use Rattle.days.specs.Covered.{year_in, length_of}
use Rattle.days.specs.Counts.{counted, days_to}
use Rattle.days.proofs.Years.{year-least}
use Rattle.days.proofs.Numbers.{counted-pos, counted-neg, year-neg}
use Rattle.days.proofs.Steps.{from-mono, before-mono, beginning}
use Rattle.days.proofs.Theorems.{month-length, year-length, within}
use Rattle.order.specs.Order.{in_turn, both, month_of, day_of, from_time, from_day, from_month, order}
use Rattle.order.proofs.Numbers.{Cases, less, equal, greater, cases}
use Rattle.instants.proofs.Counted.{Counted}

-- an earlier year is counted before
earlier : (y z : ℤ) → year_in y ≡ true → year_in z ≡ true → lt_z y z ≡ true → counted y < counted z
earlier (pos a) (pos b) t u h = rw (counted-pos a, counted-pos b) (omega (arith, ltb-true a b h))
earlier (pos a) (negsuc b) t u h = absurd (false≢true h)
earlier (negsuc a) (pos b) t u h = rw (counted-neg a (year-neg a t), counted-pos b) (omega arith)
earlier (negsuc a) (negsuc b) t u h = rw (counted-neg a (year-neg a t), counted-neg b (year-neg b u)) (omega (arith, ltb-true b a h, year-neg a t))

-- the days before a later month are not fewer
to-mono : (n i j : ℕ) → i ≤ j → days_to n i ≤ days_to n j
unfolding days_to
to-mono n i j h = omega (arith, before-mono (pos n) i j h)

-- ---- in one year

module _ (y : ℤ) (t : year_in y ≡ true) where
  -- a month or a day of it lies in the month
  in-month : (m : Month) (da : Option Day) → PartsIn y (Some m) da
      → (days_to (counted y) m.0 ≤ beginning y (Some m) da) × (beginning y (Some m) da + length_of y (Some m) da ≤ days_to (counted y) (suc m.0))
  unfolding beginning length_of
  in-month m None h = (omega arith, omega (arith, month-length y t m.0))
  in-month m (Some d) h = (omega arith, omega (arith, h.1, month-length y t m.0))

  -- and is shorter than the year
  shorter : (m : Month) (da : Option Day) → length_of y (Some m) da < year_length y
  unfolding length_of
  shorter m None = omega (arith, length_most m.0 y, year-least y)
  shorter m (Some d) = omega (arith, year-least y)

  -- two of one month: the days
  days : (m : Month) (da db : Option Day) → PartsIn y (Some m) da → PartsIn y (Some m) db
      → Counted (from_day (datetime y (Some m) da None) (datetime y (Some m) db None)) (beginning y (Some m) da) (length_of y (Some m) da) (beginning y (Some m) db) (length_of y (Some m) db)
  unfolding from_day from_time both day_of in_turn beginning length_of
  days m None None h k = (refl, refl)
  days m None (Some e) h k = inr (omega arith, omega (arith, k.1), omega (arith, month-least m.0 y h))
  days m (Some d) None h k = inl (omega arith, omega (arith, h.1), omega (arith, month-least m.0 y k))
  days m (Some d) (Some e) h k = go (cases (pos d.0) (pos e.0))
    where
      n : ℕ
      n = days_to (counted y) m.0

      last : Option Ordering
      last = from_time (datetime y (Some m) (Some d) None) (datetime y (Some m) (Some e) None)

      go : {o : Option Ordering} → Cases (pos d.0) (pos e.0) o → Counted (in_turn o last) (n + d.0) 1 (n + e.0) 1
      go (less p) = omega (arith, ltb-true d.0 e.0 p)
      go (equal p) = let f : d.0 ≡ e.0 = cc in (omega arith, refl)
      go (greater p) = omega (arith, ltb-true e.0 d.0 p)

  -- two of one year: the months
  months : (ma : Option Month) (da : Option Day) (mb : Option Month) (db : Option Day) → PartsIn y ma da → PartsIn y mb db
      → Counted (from_month (datetime y ma da None) (datetime y mb db None)) (beginning y ma da) (length_of y ma da) (beginning y mb db) (length_of y mb db)
  unfolding from_month both month_of in_turn beginning length_of
  months None None None None h k = (refl, refl)
  months None (Some d) mb db h k = absurd h
  months None None None (Some e) h k = absurd k
  months None None (Some n) db h k =
      let w = within y t (Some n) db k in
      inr (w.0, omega (arith, w.2, year-length y t), shorter n db)
  months (Some m) da None None h k =
      let w = within y t (Some m) da h in
      inl (w.0, omega (arith, w.2, year-length y t), shorter m da)
  months (Some m) da None (Some e) h k = absurd k
  months (Some m) da (Some n) db h k = go (cases (pos m.0) (pos n.0))
    where
      -- the answer that the months give, and what it means
      Means : Month → Option Ordering → Type 0
      Means n o = Counted o (beginning y (Some m) da) (length_of y (Some m) da) (beginning y (Some n) db) (length_of y (Some n) db)

      rest : Month → Option Ordering
      rest n = from_day (datetime y (Some m) da None) (datetime y (Some n) db None)

      go : {o : Option Ordering} → Cases (pos m.0) (pos n.0) o → Means n (in_turn o (rest n))
      go (less p) = omega (arith, (in-month m da h).1, (in-month n db k).0, to-mono (counted y) (suc m.0) n.0 (ltb-true m.0 n.0 p))
      go (equal p) =
          let f : m.0 ≡ n.0 = cc in
          let e : m ≡ n = ap (λ (i : ℕ). record { 0 = i }) f in
          subst (λ (i : Month). Means i (rest i)) e (days m da db h (subst (λ (i : Month). PartsIn y (Some i) db) (sym e) k))
      go (greater p) = omega (arith, (in-month n db k).1, (in-month m da h).0, to-mono (counted y) (suc n.0) m.0 (ltb-true n.0 m.0 p))

-- ---- in any years

module _ (y z : ℤ) (t : year_in y ≡ true) (u : year_in z ≡ true) (ma : Option Month) (da : Option Day) (mb : Option Month) (db : Option Day) (h : PartsIn y ma da) (k : PartsIn z mb db) where
  pub years : Counted (order (datetime y ma da None) (datetime z mb db None)) (beginning y ma da) (length_of y ma da) (beginning z mb db) (length_of z mb db)
  unfolding order in_turn
  years = go (cases y z)
    where
      Means : ℤ → Option Ordering → Type 0
      Means x o = Counted o (beginning y ma da) (length_of y ma da) (beginning x mb db) (length_of x mb db)

      rest : ℤ → Option Ordering
      rest x = from_month (datetime y ma da None) (datetime x mb db None)

      go : {o : Option Ordering} → Cases y z o → Means z (in_turn o (rest z))
      go (less p) = omega (arith, (within y t ma da h).2, (within z u mb db k).0, from-mono (suc (counted y)) (counted z) (earlier y z t u p))
      go (equal e) = subst (λ (x : ℤ). Means x (rest x)) e (months y t ma da mb db h (subst (λ (x : ℤ). PartsIn x mb db) (sym e) k))
      go (greater p) = omega (arith, (within z u mb db k).2, (within y t ma da h).0, from-mono (suc (counted z)) (counted y) (earlier z y u t p))
