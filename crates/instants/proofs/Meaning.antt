-- What the order and the comparison say of the calendar, of two Datetimes whose days are counted and that carry no time. Assumes nothing.
use mathlib.Core.Path.{◌≡◌, refl, sym, ap, ◌∙◌, subst}
use mathlib.Core.Bool.{true}
use mathlib.Core.Logic.{◌↔◌}
use Prim.Native.Nat.{ℕ, ◌<◌}
use lib.Signed.{◌<ℤ◌}
use Rattle.std.specs.Prelude.{Option, Some, None, Ok}
use Rattle.std.specs.declared.cmp.Ordering.{Ordering}
use Rattle.std.specs.declared.cmp.Ordering.TheVariants.{Equal, Greater, Less}
use Rattle.dates.specs.declared.Datetime.{Datetime}
use Rattle.dates.specs.Domain.{PartsIn}
use Rattle.dates.specs.Value.{datetime}
use Rattle.days.specs.declared.Period.{Period}
use Rattle.days.specs.Covered.{year_in, length_of, is_date, first_day, last_day, period, covered}
use Rattle.days.proofs.Steps.{beginning, first-at, last-at}
use Rattle.days.proofs.Theorems.{parts_are, within, days_are, has-days}
use Rattle.order.specs.Order.{order, from_month, from_day, from_time, partial_cmp}
use Rattle.order.proofs.Seasons.{compared-else}
use Rattle.chars.proofs.Cases.{and-true}
use Rattle.instants.specs.Stands.{Nested, Stands as Means}
use Rattle.instants.proofs.Counted.{from, Counted, counted-on, counted_back, one_answer}
use Rattle.instants.proofs.Cases.{years}

-- what has days is a date of the calendar: its year and its parts
in-calendar : (d : Datetime) {p : Period} → covered d ≡ Ok p → (year_in d.year ≡ true) × PartsIn d.year d.month d.day
unfolding is_date
in-calendar d e =
    let i = and-true (year_in d.year) _ (has-days d e).1 in
    (i.0, (parts_are d.year d.month d.day).0 i.1)

-- where its days begin, counted, and how many they are
start : Datetime → ℕ
start d = beginning d.year d.month d.day

count : Datetime → ℕ
count d = length_of d.year d.month d.day

some-days : (d : Datetime) {p : Period} → covered d ≡ Ok p → 0 < count d
unfolding count
some-days d e = let i = in-calendar d e in (within d.year i.0 d.month d.day i.1).1

period-is : (d : Datetime) {p : Period} → covered d ≡ Ok p → p ≡ from (start d) (count d)
unfolding first_day last_day start count
period-is d {p} e =
    let t = (in-calendar d e).0 in
    let f : Ok p ≡ Ok (period (first_day d) (last_day d)) = sym e ∙ days_are d (has-days d e).0 (has-days d e).1 in
    let g : p ≡ period (first_day d) (last_day d) = cc in
    g ∙ rw (first-at d.year d.month d.day t, last-at d.year d.month d.day t)

-- the order looks at no season
unseasoned : (a b : Datetime) → order a b ≡ order (datetime a.year a.month a.day a.time) (datetime b.year b.month b.day b.time)
unfolding order from_month from_day from_time
unseasoned a b = refl

module _ (a b : Datetime) (ta : a.time ≡ None) (tb : b.time ≡ None) {p q : Period} (ca : covered a ≡ Ok p) (cb : covered b ≡ Ok q) where
  counted : Counted (order a b) (start a) (count a) (start b) (count b)
  unfolding start count
  counted =
      let i = in-calendar a ca in
      let j = in-calendar b cb in
      rw (unseasoned a b, ta, tb) (years a.year b.year i.0 j.0 a.month a.day b.month b.day i.1 j.1)

  stands : Means (order a b) p q
  stands = rw (period-is a ca, period-is b cb) (counted-on (start a) (count a) (start b) (count b) (some-days a ca) (some-days b cb) (order a b) counted)

  alone : (o : Option Ordering) → Means o p q → order a b ≡ o
  alone o s =
      let k = some-days a ca in
      let l = some-days b cb in
      one_answer (start a) (count a) (start b) (count b) k l (order a b) o counted
      (counted_back (start a) (count a) (start b) (count b) k l o (rw (period-is a ca, period-is b cb) at s))

  -- what has days has no season, so the comparison is the order
  compares : partial_cmp a b ≡ Ok (order a b)
  compares = compared-else a b (has-days a ca).0 (has-days b cb).0

  order_is : (o : Option Ordering) → partial_cmp a b ≡ Ok o → order a b ≡ o
  order_is o e = let f : Ok (order a b) ≡ Ok o = sym compares ∙ e in cc

  -- each answer of the order means what the calendar says of it, and no other does
  pub order-means : (o : Option Ordering) → (order a b ≡ o) ↔ Means o p q
  order-means o = (λ e. subst (λ (r : Option Ordering). Means r p q) e stands, alone o)

  -- and so does each answer of the comparison
  pub answer-means : (o : Option Ordering) → (partial_cmp a b ≡ Ok o) ↔ Means o p q
  answer-means o = (λ e. (order-means o).0 (order_is o e), λ s. compares ∙ ap Ok ((order-means o).1 s))

  -- less exactly when the last day of the first is before the first day of the second
  pub less-means : (partial_cmp a b ≡ Ok (Some Less)) ↔ (p.last <ℤ q.first)
  less-means = answer-means (Some Less)

  -- equal exactly when both cover the same days
  pub equal-means : (partial_cmp a b ≡ Ok (Some Equal)) ↔ (p ≡ q)
  equal-means = answer-means (Some Equal)

  -- greater exactly when the last day of the second is before the first day of the first
  pub greater-means : (partial_cmp a b ≡ Ok (Some Greater)) ↔ (q.last <ℤ p.first)
  greater-means = answer-means (Some Greater)

  -- none exactly when one period lies inside the other and they differ
  pub none-means : (partial_cmp a b ≡ Ok None) ↔ Nested p q
  none-means = answer-means None
