-- What has an instant; the order of instants is total, up to equal instants; of one stored day it says what the ported order says. Assumes nothing.
use mathlib.Core.Path.{◌≡◌, refl, sym, ap, ◌∙◌}
use mathlib.Core.Bool.{Bool, true, false, false≢true}
use mathlib.Core.Logic.{◌⊎◌, ◌↔◌, inl, inr, ⊎_elim}
use Prim.Native.Nat.{ℕ}
use native.Mathlib.Omega.{arith}
use lib.IntN.{ℤ, pos, ◌+ℤ◌, ◌*ℤ◌}
use Rattle.chars.specs.Pick.{pick}
use Rattle.chars.proofs.Cases.{and-true, of_test}
use Rattle.refusals.specs.declared.Kind.TheVariants.{NotACalendarDate, BadTime, HasSeason, NoInstant}
use Rattle.refusals.specs.declared.Refusal.{Refusal}
use Rattle.refusals.specs.Refusal.{file_span, refusal, number}
use Rattle.dates.specs.declared.Month.{Month}
use Rattle.dates.specs.declared.Day.{Day}
use Rattle.std.specs.Prelude.{Option, Some, None, Result, Ok, Err}
use Rattle.std.specs.declared.cmp.Ordering.{Ordering}
use Rattle.std.specs.declared.cmp.Ordering.TheVariants.{Equal, Greater, Less}
use Rattle.dates.specs.declared.TimeOffset.{TimeOffset}
use Rattle.dates.specs.declared.Time.{Time}
use Rattle.dates.specs.declared.Datetime.{Datetime}
use Rattle.dates.specs.Time.{utc_seconds}
use Rattle.dates.specs.Value.{datetime, has_season}
use Rattle.days.specs.declared.Period.{Period}
use Rattle.days.specs.Covered.{year_in, parts_in, is_date, first_day, last_day, period, not_adate, calendar_days, seasoned, covered}
use Rattle.days.proofs.Theorems.{season-exactly as days-of-season, has-days, days_are}
use Rattle.order.specs.Order.{number_order, in_turn, both, month_of, day_of, alike, time_order, from_time, from_day, from_month, order, partial_cmp}
use Rattle.order.proofs.Numbers.{Cases, less, equal, greater, cases, number_same}
use Rattle.order.specs.Laws.{mirror}
use Rattle.order.proofs.Laws.{same, numbers}
use Rattle.order.proofs.Seasons.{compared-else}
use Rattle.dates.specs.Clocks.{has_bad_time}
use Rattle.instants.specs.Instants.{refused_instant, seconds_at, on_time, on_day_and_time, on_covered, instant_of, both as joined, compared, Told, Absent, no_day, no_time, no_offset, HasDays}
use Rattle.instants.proofs.Shift.{number-shift}

-- ---- what has an instant

-- the number of an instant's refusal; 0 if it has none
abbrev numbered : Result ℤ Refusal → ℕ
numbered (Ok x) = 0
numbered (Err e) = number e.kind

other : {i j : Result ℤ Refusal} → (numbered i ≡ numbered j → ⊥) → i ≡ j → ⊥
other f e = f (ap numbered e)

-- days are refused for a season, or because there is no such date
two-kinds : (a : Datetime) {e : Refusal} → covered a ≡ Err e → (number e.kind ≡ 24) ⊎ (number e.kind ≡ 17)
unfolding covered calendar_days seasoned not_adate pick refusal
two-kinds a {e} h = go (has_season a) (is_date a) h
  where
    go : (s i : Bool) → pick s seasoned (pick i (Ok (period (first_day a) (last_day a))) not_adate) ≡ Err e → (number e.kind ≡ 24) ⊎ (number e.kind ≡ 17)
    go true i h = let g : refusal HasSeason (file_span 0 0) ≡ e = cc in inl (ap (λ (r : Refusal). number r.kind) (sym g))
    go false true h = let z : ◌≡◌ {A = ℕ} 0 1 = cc in absurd (omega arith)
    go false false h = let g : refusal NotACalendarDate (file_span 0 0) ≡ e = cc in inr (ap (λ (r : Refusal). number r.kind) (sym g))

-- no other kind is
not_so : (a : Datetime) {e : Refusal} {i : Result ℤ Refusal} → covered a ≡ Err e → (numbered i ≡ 24 → ⊥) → (numbered i ≡ 17 → ⊥) → Err e ≡ i → ⊥
not_so a q f g h =
    ⊎_elim (λ k. f (sym (ap numbered h) ∙ k)) (λ k. g (sym (ap numbered h) ∙ k)) (two-kinds a q)

-- ---- the day, the time and the offset

abbrev Parts : ℤ → Option Day → Option Time → ℤ → Type 0
Parts f da ti x = (d : Day) × (t : Time) × (o : TimeOffset) × (da ≡ Some d) × (ti ≡ Some t) × (t.offset ≡ Some o) × (x ≡ seconds_at f t)

on-offset : (f : ℤ) (d : Day) (t : Time) (of : Option TimeOffset) {x : ℤ} → t.offset ≡ of → on_time f t of ≡ Ok x → Parts f (Some d) (Some t) x
unfolding on_time refused_instant
on-offset f d t None e h = let z : ◌≡◌ {A = ℕ} 0 1 = cc in absurd (omega arith)
on-offset f d t (Some o) {x} e h = let g : x ≡ seconds_at f t = cc in (d, t, o, refl, refl, e, g)

parts : (f : ℤ) (da : Option Day) (ti : Option Time) {x : ℤ} → on_day_and_time f da ti ≡ Ok x → Parts f da ti x
unfolding on_day_and_time refused_instant
parts f None ti h = let z : ◌≡◌ {A = ℕ} 0 1 = cc in absurd (omega arith)
parts f (Some d) None h = let z : ◌≡◌ {A = ℕ} 0 1 = cc in absurd (omega arith)
parts f (Some d) (Some t) h = on-offset f d t t.offset refl h

-- where all are there
there : (f : ℤ) {da : Option Day} {ti : Option Time} {d : Day} {t : Time} {o : TimeOffset} → da ≡ Some d → ti ≡ Some t → t.offset ≡ Some o → on_day_and_time f da ti ≡ Ok (seconds_at f t)
unfolding on_day_and_time on_time
there f e g h = rw (e, g, h)

-- where one is absent, and only there, it is refused, and so
absent-so : (f : ℤ) {da : Option Day} {ti : Option Time} → Absent da ti → on_day_and_time f da ti ≡ refused_instant NoInstant
unfolding on_day_and_time on_time
absent-so f no_day = refl
absent-so f (no_time {da}) = go da
  where
    go : (da : Option Day) → on_day_and_time f da None ≡ refused_instant NoInstant
    go None = refl
    go (Some d) = refl
absent-so f (no_offset {da} {t} e) = go da
  where
    go : (da : Option Day) → on_day_and_time f da (Some t) ≡ refused_instant NoInstant
    go None = refl
    go (Some d) = rw e

one-kind : (f : ℤ) (da : Option Day) (ti : Option Time) {e : Refusal} → on_day_and_time f da ti ≡ Err e → Absent da ti × (Err e ≡ refused_instant NoInstant)
unfolding on_day_and_time on_time
one-kind f None ti h = (no_day, sym h)
one-kind f (Some d) None h = (no_time, sym h)
one-kind f (Some d) (Some t) {e} h = go t.offset refl h
  where
    go : (of : Option TimeOffset) → t.offset ≡ of → on_time f t of ≡ Err e → Absent (Some d) (Some t) × (Err e ≡ refused_instant NoInstant)
    go None q h = (no_offset q, sym h)
    go (Some o) q h = let z : ◌≡◌ {A = ℕ} 0 1 = cc in absurd (omega arith)

-- ---- by what is covered

module _ (a : Datetime) where
  -- its days are counted: by whether its time is bad
  module _ {p : Period} (c : covered a ≡ Ok p) where
    bad-so : has_bad_time a ≡ true → instant_of a ≡ refused_instant BadTime
    unfolding instant_of on_covered pick
    bad-so q = rw (c, q)

    good-so : has_bad_time a ≡ false → instant_of a ≡ on_day_and_time p.first a.day a.time
    unfolding instant_of on_covered pick
    good-so q = rw (c, q)

  -- they are not: that is its refusal
  no-days-so : {e : Refusal} → covered a ≡ Err e → instant_of a ≡ Err e
  unfolding instant_of on_covered
  no-days-so c = rw c

  -- its instant, by the three
  by_cases : {i : Result ℤ Refusal} → instant_of a ≡ i → (A : Type 0)
      → ((e : Refusal) → covered a ≡ Err e → Err e ≡ i → A)
      → (HasDays a → has_bad_time a ≡ true → refused_instant BadTime ≡ i → A)
      → ((p : Period) → covered a ≡ Ok p → has_bad_time a ≡ false → on_day_and_time p.first a.day a.time ≡ i → A)
      → A
  by_cases {i} h A f g k = go (covered a) refl
    where
      go : (c : Result Period Refusal) → covered a ≡ c → A
      go (Err e) q = f e q (sym (no-days-so q) ∙ h)
      go (Ok p) q =
          of_test (has_bad_time a) (λ b. g (p, q) b (sym (bad-so q b) ∙ h)) (λ b. k p q b (sym (good-so q b) ∙ h))

  -- HasSeason exactly if it has a season,
  pub season-exactly : (instant_of a ≡ refused_instant HasSeason) ↔ (has_season a ≡ true)
  unfolding refused_instant refusal seasoned
  season-exactly = (
    λ h. by_cases h (has_season a ≡ true)
        (λ e q r. let g : e ≡ refusal HasSeason (file_span 0 0) = cc in (days-of-season a).0 (q ∙ ap Err g))
        (λ w b r. absurd (other (λ (z : ◌≡◌ {A = ℕ} 22 24). omega arith) r))
        (λ p q b r. let w = one-kind p.first a.day a.time r in absurd (other (λ (z : ◌≡◌ {A = ℕ} 24 25). omega arith) w.1)),
    λ s. no-days-so ((days-of-season a).1 s),
  )

  -- NotACalendarDate exactly if it is refused so when its days are counted,
  pub no-date-exactly : (instant_of a ≡ refused_instant NotACalendarDate) ↔ (covered a ≡ not_adate)
  unfolding refused_instant refusal not_adate
  no-date-exactly = (
    λ h. by_cases h (covered a ≡ not_adate)
        (λ e q r. let g : e ≡ refusal NotACalendarDate (file_span 0 0) = cc in q ∙ ap Err g)
        (λ w b r. absurd (other (λ (z : ◌≡◌ {A = ℕ} 22 17). omega arith) r))
        (λ p q b r. let w = one-kind p.first a.day a.time r in absurd (other (λ (z : ◌≡◌ {A = ℕ} 17 25). omega arith) w.1)),
    λ c. no-days-so c,
  )

  -- BadTime exactly if its days are counted and its time is bad,
  pub bad-exactly : (instant_of a ≡ refused_instant BadTime) ↔ (HasDays a × (has_bad_time a ≡ true))
  unfolding refused_instant refusal
  bad-exactly = (
    λ h. by_cases h (HasDays a × (has_bad_time a ≡ true))
        (λ e q r. absurd (not_so a q (λ (z : ◌≡◌ {A = ℕ} 22 24). omega arith) (λ (z : ◌≡◌ {A = ℕ} 22 17). omega arith) r))
        (λ w b r. (w, b))
        (λ p q b r. let w = one-kind p.first a.day a.time r in absurd (other (λ (z : ◌≡◌ {A = ℕ} 22 25). omega arith) w.1)),
    λ (w : HasDays a × (has_bad_time a ≡ true)). bad-so w.0.1 w.1,
  )

  -- NoInstant exactly if they are, its time is not bad, and the day, the time or the offset is absent,
  pub none-exactly : (instant_of a ≡ refused_instant NoInstant) ↔ (HasDays a × (has_bad_time a ≡ false) × Absent a.day a.time)
  unfolding refused_instant refusal
  none-exactly = (
    λ h. by_cases h (HasDays a × (has_bad_time a ≡ false) × Absent a.day a.time)
        (λ e q r. absurd (not_so a q (λ (z : ◌≡◌ {A = ℕ} 25 24). omega arith) (λ (z : ◌≡◌ {A = ℕ} 25 17). omega arith) r))
        (λ w b r. absurd (other (λ (z : ◌≡◌ {A = ℕ} 22 25). omega arith) r))
        (λ p q b r. ((p, q), b, (one-kind p.first a.day a.time r).0)),
    λ (w : HasDays a × (has_bad_time a ≡ false) × Absent a.day a.time). good-so w.0.1 w.1 ∙ absent-so w.0.0.first w.2,
  )

  -- and there is an instant exactly if they are, its time is not bad, and all three are there: then it is the day's number times 86,400 and the seconds
  pub told-exactly : {x : ℤ} → (instant_of a ≡ Ok x) ↔ Told a x
  unfolding refused_instant seconds_at
  told-exactly {x} = (
    λ h. by_cases h (Told a x)
        (λ e q r. let z : ◌≡◌ {A = ℕ} 0 1 = cc in absurd (omega arith))
        (λ w b r. let z : ◌≡◌ {A = ℕ} 0 1 = cc in absurd (omega arith))
        (λ p q b r. let w = parts p.first a.day a.time r in record { p = p; d = w.0; t = w.1; o = w.2; days_are = q; time_good = b; day_is = w.3; time_is = w.4; offset_is = w.5; seconds_are = w.6 }),
    λ (w : Told a x). good-so w.days_are w.time_good ∙ there w.p.first w.day_is w.time_is w.offset_is ∙ ap Ok (sym w.seconds_are),
  )

-- a day has a month beside it
beside : (y : ℤ) (mo : Option Month) (d : Day) → parts_in y mo (Some d) ≡ true → (m : Month) × (mo ≡ Some m)
unfolding parts_in
beside y None d e = absurd (false≢true e)
beside y (Some m) d e = (m, refl)

module _ (a : Datetime) {x : ℤ} (w : Told a x) where
  month_is : (m : Month) × (a.month ≡ Some m)
  unfolding is_date
  month_is =
      let e = (and-true (year_in a.year) (parts_in a.year a.month a.day) (has-days a w.days_are).1).1 in
      beside a.year a.month w.d (ap (λ (da : Option Day). parts_in a.year a.month da) (sym w.day_is) ∙ e)

  -- its day is the first that it covers
  seconds-on : x ≡ seconds_at (first_day a) w.t
  unfolding seconds_at
  seconds-on =
      let f : Ok w.p ≡ Ok (period (first_day a) (last_day a)) = sym w.days_are ∙ days_are a (has-days a w.days_are).0 (has-days a w.days_are).1 in
      let g : w.p ≡ period (first_day a) (last_day a) = cc in
      w.seconds_are ∙ ap (λ (q : Period). q.first *ℤ pos 86400 +ℤ utc_seconds w.t) g

-- what has an instant has no season
pub no-season : (a : Datetime) {x : ℤ} → instant_of a ≡ Ok x → has_season a ≡ false
no-season a h = (has-days a ((told-exactly a).0 h).days_are).0

-- ---- a total order, up to equal instants

module _ (a b : Datetime) {x y : ℤ} (ea : instant_of a ≡ Ok x) (eb : instant_of b ≡ Ok y) where
  -- the seconds are compared
  pub stands : compared a b ≡ Ok (number_order x y)
  unfolding compared joined
  stands = rw (ea, eb)

  answer_is : (o : Option Ordering) → compared a b ≡ Ok o → number_order x y ≡ o
  answer_is o h = let g : Ok (number_order x y) ≡ Ok o = sym stands ∙ h in cc

  -- one is before the other, or they are equal
  pub always : (compared a b ≡ Ok (Some Less)) ⊎ ((compared a b ≡ Ok (Some Equal)) ⊎ (compared a b ≡ Ok (Some Greater)))
  always = go (cases x y) stands
    where
      go : {o : Option Ordering} → Cases x y o → compared a b ≡ Ok o → (compared a b ≡ Ok (Some Less)) ⊎ ((compared a b ≡ Ok (Some Equal)) ⊎ (compared a b ≡ Ok (Some Greater)))
      go (less p) h = inl h
      go (equal p) h = inr (inl h)
      go (greater p) h = inr (inr h)

  -- equal exactly if they are the same instant
  pub equal-instants : (compared a b ≡ Ok (Some Equal)) ↔ (x ≡ y)
  equal-instants = (λ h. same x y (answer_is (Some Equal) h), λ (e : x ≡ y). stands ∙ ap (λ (z : ℤ). Ok (number_order x z)) (sym e) ∙ ap Ok (number_same x))

-- what compares has instants
have : (a b : Datetime) {o : Option Ordering} → compared a b ≡ Ok o → (x : ℤ) × (y : ℤ) × (instant_of a ≡ Ok x) × (instant_of b ≡ Ok y)
unfolding compared joined
have a b {o} h = go (instant_of a) (instant_of b) refl refl h
  where
    go : (i j : Result ℤ Refusal) → instant_of a ≡ i → instant_of b ≡ j → joined i j ≡ Ok o → (x : ℤ) × (y : ℤ) × (instant_of a ≡ Ok x) × (instant_of b ≡ Ok y)
    go (Err e) j p q h = let z : ◌≡◌ {A = ℕ} 0 1 = cc in absurd (omega arith)
    go (Ok x) (Err e) p q h = let z : ◌≡◌ {A = ℕ} 0 1 = cc in absurd (omega arith)
    go (Ok x) (Ok y) p q h = (x, y, p, q)

-- exchanged, less and greater are
pub mirrored : (a b : Datetime) (o : Option Ordering) → compared a b ≡ Ok o → compared b a ≡ Ok (mirror o)
mirrored a b o h =
    let w = have a b h in
    stands b a w.3 w.2 ∙ ap Ok (numbers.mirrors w.0 w.1 ∙ ap mirror (answer_is a b w.2 w.3 o h))

-- less is transitive
pub passed : (a b c : Datetime) → compared a b ≡ Ok (Some Less) → compared b c ≡ Ok (Some Less) → compared a c ≡ Ok (Some Less)
passed a b c h k =
    let v = have a b h in
    let w = have b c k in
    stands a c v.2 w.3 ∙ ap Ok (numbers.passes v.0 v.1 w.1 (answer_is a b v.2 v.3 (Some Less) h) (answer_is b c v.3 w.3 (Some Less) k))

-- two with equal instants get the same answer against any third, refused or not, on either side
pub instants-alike : (a b c : Datetime) → instant_of a ≡ instant_of b → (compared a c ≡ compared b c) × (compared c a ≡ compared c b)
unfolding compared
instants-alike a b c e = (rw e, rw e)

-- and so do two that compare equal
pub equals-alike : (a b c : Datetime) → compared a b ≡ Ok (Some Equal) → (compared a c ≡ compared b c) × (compared c a ≡ compared c b)
equals-alike a b c h =
    let w = have a b h in
    let e : w.0 ≡ w.1 = (equal-instants a b w.2 w.3).0 h in
    instants-alike a b c (w.2 ∙ ap Ok e ∙ sym w.3)

-- ---- the ported order, of one stored day

timed : (y : ℤ) (m : Month) (d : Day) (s t : Time) {o r : TimeOffset} → s.offset ≡ Some o → t.offset ≡ Some r
    → order (datetime y (Some m) (Some d) (Some s)) (datetime y (Some m) (Some d) (Some t)) ≡ number_order (utc_seconds s) (utc_seconds t)
unfolding order in_turn from_month both month_of from_day day_of from_time time_order alike pick
timed y m d s t e f = rw (number_same y, number_same (pos m.0), number_same (pos d.0), e, f)

rebuilt : (a : Datetime) {y : ℤ} {m : Option Month} {d : Option Day} {t : Option Time} → a.year ≡ y → a.month ≡ m → a.day ≡ d → a.time ≡ t → datetime a.year a.month a.day a.time ≡ datetime y m d t
rebuilt a e f g h = rw (sym e, sym f, sym g, sym h)

-- the order looks at no season
unseasoned : (a b : Datetime) → order a b ≡ order (datetime a.year a.month a.day a.time) (datetime b.year b.month b.day b.time)
unfolding order from_month from_day from_time
unseasoned a b = refl

-- the two orders say the same: they differ only between different stored days
pub same-day : (a b : Datetime) {x y : ℤ} → instant_of a ≡ Ok x → instant_of b ≡ Ok y → a.year ≡ b.year → a.month ≡ b.month → a.day ≡ b.day
    → compared a b ≡ Ok (order a b)
unfolding seconds_at first_day
same-day a b {x} {y} ea eb ye me de =
    let p = (told-exactly a).0 ea in
    let q = (told-exactly b).0 eb in
    let m = month_is a p in
    let k = first_day a *ℤ pos 86400 in
    let first : first_day b ≡ first_day a = rw (ye, me, de) in
    let later : y ≡ k +ℤ utc_seconds q.t = seconds-on b q ∙ ap (λ (z : ℤ). z *ℤ pos 86400 +ℤ utc_seconds q.t) first in
    let left = rebuilt a refl m.1 p.day_is p.time_is in
    let right = rebuilt b (sym ye) (sym me ∙ m.1) (sym de ∙ p.day_is) q.time_is in
    stands a b ea eb
    ∙ ap Ok
    (ap (λ (z : ℤ). number_order z y) (seconds-on a p) ∙ ap (λ (z : ℤ). number_order (k +ℤ utc_seconds p.t) z) later
    ∙ number-shift k (utc_seconds p.t) (utc_seconds q.t)
    ∙ sym (unseasoned a b ∙ ap (λ (d : Datetime). order d (datetime b.year b.month b.day b.time)) left ∙ ap (λ (d : Datetime). order (datetime a.year (Some m.0) (Some p.d) (Some p.t)) d) right ∙ timed a.year m.0 p.d p.t q.t p.offset_is q.offset_is))

-- and the ported comparison answers so, since what has an instant has no season
pub same_answer : (a b : Datetime) {x y : ℤ} → instant_of a ≡ Ok x → instant_of b ≡ Ok y → a.year ≡ b.year → a.month ≡ b.month → a.day ≡ b.day
    → compared a b ≡ partial_cmp a b
same_answer a b ea eb ye me de = same-day a b ea eb ye me de ∙ sym (compared-else a b (no-season a ea) (no-season b eb))

-- ---- seasons

-- a Datetime with a season is refused as the first of two, whatever the second is,
pub season-first : (a b : Datetime) → has_season a ≡ true → compared a b ≡ Err (refusal HasSeason (file_span 0 0))
unfolding compared joined refused_instant
season-first a b e = rw ((season-exactly a).1 e)

-- and as the second where the first has an instant
pub season-second : (a b : Datetime) {x : ℤ} → instant_of a ≡ Ok x → has_season b ≡ true → compared a b ≡ Err (refusal HasSeason (file_span 0 0))
unfolding compared joined refused_instant
season-second a b ea e = rw (ea, (season-exactly b).1 e)
