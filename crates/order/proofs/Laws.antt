-- The laws of the order, for all Datetimes and times: less and greater mirror each other, less is transitive, and two that compare
-- equal get the same answer against any third. They are kept by every step that the order is made of. Assumes nothing.
use mathlib.Core.Path.{◌≡◌, refl, sym, ap, ◌∙◌}
use mathlib.Core.Bool.{Bool, true, false, false≢true}
use mathlib.Core.Logic.{◌⊎◌, ⊎_elim, inl, inr}
use lib.IntN.{ℤ}
use lib.Signed.{lt_z}
use Rattle.chars.specs.Pick.{pick}
use Rattle.dates.specs.declared.TimeOffset.{TimeOffset}
use Rattle.std.specs.Prelude.{Option, Some, None}
use Rattle.std.specs.declared.cmp.Ordering.{Ordering}
use Rattle.std.specs.declared.cmp.Ordering.TheVariants.{Equal, Greater, Less}
use Rattle.dates.specs.declared.Time.{Time}
use Rattle.dates.specs.declared.Datetime.{Datetime}
use Rattle.dates.specs.Time.{utc_seconds}
use Rattle.order.specs.Order.{number_order, in_turn, both, month_of, day_of, alike, time_order, from_time, from_day, from_month, order}
use Rattle.order.specs.Laws.{mirror, Lawful}
use Rattle.dates.proofs.Less.{lt_trans}
use Rattle.order.proofs.Numbers.{Cases, less, equal, greater, cases, number-less, number-greater, number_same}

-- which answer it is, to tell two apart
abbrev is_less : Option Ordering → Bool
is_less (Some Less) = true
is_less (Some Equal) = false
is_less (Some Greater) = false
is_less None = false

abbrev is_equal : Option Ordering → Bool
is_equal (Some Less) = false
is_equal (Some Equal) = true
is_equal (Some Greater) = false
is_equal None = false

not-less : {X : Type 0} {o : Option Ordering} → is_less o ≡ false → o ≡ Some Less → X
not-less f e = absurd (false≢true (sym f ∙ ap is_less e))

not_equal : {X : Type 0} {o : Option Ordering} → is_equal o ≡ false → o ≡ Some Equal → X
not_equal f e = absurd (false≢true (sym f ∙ ap is_equal e))

-- ---- two numbers

number-mirror : (a b : ℤ) → number_order b a ≡ mirror (number_order a b)
number-mirror a b = go (number_order a b) (cases a b)
  where
    go : (o : Option Ordering) → Cases a b o → number_order b a ≡ mirror o
    go (Some Less) (less h) = number-greater b a h
    go (Some Equal) (equal e) = rw e (number_same b)
    go (Some Greater) (greater h) = number-less b a h
    go None x = elim x [ ]

pub below : (a b : ℤ) → number_order a b ≡ Some Less → lt_z a b ≡ true
below a b e = go (number_order a b) (cases a b) e
  where
    go : (o : Option Ordering) → Cases a b o → o ≡ Some Less → lt_z a b ≡ true
    go (Some Less) (less h) e = h
    go (Some Equal) (equal h) e = not-less refl e
    go (Some Greater) (greater h) e = not-less refl e
    go None x e = elim x [ ]

pub same : (a b : ℤ) → number_order a b ≡ Some Equal → a ≡ b
same a b e = go (number_order a b) (cases a b) e
  where
    go : (o : Option Ordering) → Cases a b o → o ≡ Some Equal → a ≡ b
    go (Some Less) (less h) e = not_equal refl e
    go (Some Equal) (equal h) e = h
    go (Some Greater) (greater h) e = not_equal refl e
    go None x e = elim x [ ]

pub numbers : Lawful number_order
numbers =
    record {
      mirrors = number-mirror;
      passes = λ a b c h k. number-less a c (lt_trans a b c (below a b h) (below b c k));
      answers = λ a b c e. ap (λ (z : ℤ). number_order z c) (same a b e);
    }

-- ---- parts that are compared instead

along : {A B : Type 0} {cmp : B → B → Option Ordering} (part : A → B) → Lawful cmp → Lawful (λ (a b : A). cmp (part a) (part b))
along part l =
    record {
      mirrors = λ a b. l.mirrors (part a) (part b);
      passes = λ a b c. l.passes (part a) (part b) (part c);
      answers = λ a b c. l.answers (part a) (part b) (part c);
    }

-- ---- one comparison, then another

mirror-turn : (o p : Option Ordering) → mirror (in_turn o p) ≡ in_turn (mirror o) (mirror p)
unfolding in_turn
mirror-turn (Some Less) p = refl
mirror-turn (Some Equal) p = refl
mirror-turn (Some Greater) p = refl
mirror-turn None p = refl

turn-equal : (o p : Option Ordering) → in_turn o p ≡ Some Equal → (o ≡ Some Equal) × (p ≡ Some Equal)
unfolding in_turn
turn-equal (Some Less) p e = not_equal refl e
turn-equal (Some Equal) p e = (refl, e)
turn-equal (Some Greater) p e = not_equal refl e
turn-equal None p e = not_equal refl e

turn-less : (o p : Option Ordering) → in_turn o p ≡ Some Less → (o ≡ Some Less) ⊎ ((o ≡ Some Equal) × (p ≡ Some Less))
unfolding in_turn
turn-less (Some Less) p e = inl refl
turn-less (Some Equal) p e = inr (refl, e)
turn-less (Some Greater) p e = not-less refl e
turn-less None p e = not-less refl e

module _ {A : Type 0} {f g : A → A → Option Ordering} (lf : Lawful f) (lg : Lawful g) where
  abbrev turn : A → A → Option Ordering
  turn a b = in_turn (f a b) (g a b)

  -- equals answer alike on the right too
  right : (a b c : A) → f b c ≡ Some Equal → f a c ≡ f a b
  right a b c e = lf.mirrors c a ∙ ap mirror (lf.answers c b a (lf.mirrors b c ∙ ap mirror e)) ∙ sym (lf.mirrors b a)

  less-less : (a b c : A) → f a b ≡ Some Less → f b c ≡ Some Less → turn a c ≡ (Some Less)
  unfolding in_turn
  less-less a b c h k = rw (lf.passes a b c h k)

  less_equal : (a b c : A) → f a b ≡ Some Less → f b c ≡ Some Equal → turn a c ≡ (Some Less)
  unfolding in_turn
  less_equal a b c h k = rw (right a b c k, h)

  equal-less : (a b c : A) → f a b ≡ Some Equal → f b c ≡ Some Less → turn a c ≡ (Some Less)
  unfolding in_turn
  equal-less a b c h k = rw (lf.answers a b c h, k)

  equal-equal : (a b c : A) → f a b ≡ Some Equal → f b c ≡ Some Equal → g a c ≡ Some Less → turn a c ≡ (Some Less)
  unfolding in_turn
  equal-equal a b c h k e = rw (lf.answers a b c h, k) e

  turn-passes : (a b c : A) → turn a b ≡ Some Less → turn b c ≡ Some Less → turn a c ≡ (Some Less)
  turn-passes a b c h k =
      ⊎_elim
      (λ (p : f a b ≡ Some Less). ⊎_elim
      (λ (q : f b c ≡ Some Less). less-less a b c p q)
      (λ (q : (f b c ≡ Some Equal) × (g b c ≡ Some Less)). less_equal a b c p q.0)
      (turn-less (f b c) (g b c) k))
      (λ (p : (f a b ≡ Some Equal) × (g a b ≡ Some Less)). ⊎_elim
      (λ (q : f b c ≡ Some Less). equal-less a b c p.0 q)
      (λ (q : (f b c ≡ Some Equal) × (g b c ≡ Some Less)). equal-equal a b c p.0 q.0 (lg.passes a b c p.1 q.1))
      (turn-less (f b c) (g b c) k))
      (turn-less (f a b) (g a b) h)

  turn-answers : (a b c : A) → turn a b ≡ Some Equal → turn a c ≡ turn b c
  turn-answers a b c e =
      let p = turn-equal (f a b) (g a b) e in
      rw (lf.answers a b c p.0, lg.answers a b c p.1)

  in-turn : Lawful turn
  in-turn =
      record {
        mirrors = λ a b. rw (lf.mirrors a b, lg.mirrors a b) (sym (mirror-turn (f a b) (g a b)));
        passes = turn-passes;
        answers = turn-answers;
      }

-- ---- what may be absent: where both are present, what goes on compares them, and what they are parts of

module _ {A B : Type 0} (go : A → A → B → B → Option Ordering) (l : Lawful (λ (u v : A × B). go u.0 v.0 u.1 v.1)) where
  both-mirrors : (a b : A) (x y : Option B) → both y x (go b a) ≡ mirror (both x y (go a b))
  unfolding both
  both-mirrors a b None None = refl
  both-mirrors a b None (Some y) = refl
  both-mirrors a b (Some x) None = refl
  both-mirrors a b (Some x) (Some y) = l.mirrors (a, x) (b, y)

  both-passes : (a b c : A) (x y z : Option B) → both x y (go a b) ≡ Some Less → both y z (go b c) ≡ Some Less → both x z (go a c) ≡ (Some Less)
  unfolding both
  both-passes a b c None None z h k = not-less refl h
  both-passes a b c None (Some y) z h k = not-less refl h
  both-passes a b c (Some x) None z h k = not-less refl h
  both-passes a b c (Some x) (Some y) None h k = not-less refl k
  both-passes a b c (Some x) (Some y) (Some z) h k = l.passes (a, x) (b, y) (c, z) h k

  both-answers : (a b c : A) (x y z : Option B) → both x y (go a b) ≡ Some Equal → both x z (go a c) ≡ both y z (go b c)
  unfolding both
  both-answers a b c None None None e = refl
  both-answers a b c None None (Some z) e = refl
  both-answers a b c None (Some y) z e = not_equal refl e
  both-answers a b c (Some x) None z e = not_equal refl e
  both-answers a b c (Some x) (Some y) None e = refl
  both-answers a b c (Some x) (Some y) (Some z) e = l.answers (a, x) (b, y) (c, z) e

  optional : (part : A → Option B) → Lawful (λ (a b : A). both (part a) (part b) (go a b))
  optional part =
      record {
        mirrors = λ a b. both-mirrors a b (part a) (part b);
        passes = λ a b c. both-passes a b c (part a) (part b) (part c);
        answers = λ a b c. both-answers a b c (part a) (part b) (part c);
      }

-- a number that may be absent, then what follows
then : {A : Type 0} {next : A → A → Option Ordering} → Lawful next → (part : A → Option ℤ) → Lawful (λ (a b : A). both (part a) (part b) (λ (m n : ℤ). in_turn (number_order m n) (next a b)))
then {A} {next} l part =
    optional (λ (a b : A) (m n : ℤ). in_turn (number_order m n) (next a b))
    (in-turn (along (λ (u : A × ℤ). u.1) numbers) (along (λ (u : A × ℤ). u.0) l)) part

-- ---- times: those that have an offset and those that have none, then the seconds

abbrev kinds : Option TimeOffset → Option TimeOffset → Option Ordering
kinds None None = Some Equal
kinds None (Some q) = None
kinds (Some p) None = None
kinds (Some p) (Some q) = Some Equal

kinds-lawful : Lawful kinds
kinds-lawful = record { mirrors = mirrors; passes = passes; answers = answers }
  where
    mirrors : (p q : Option TimeOffset) → kinds q p ≡ mirror (kinds p q)
    mirrors None None = refl
    mirrors None (Some q) = refl
    mirrors (Some p) None = refl
    mirrors (Some p) (Some q) = refl

    passes : (p q r : Option TimeOffset) → kinds p q ≡ Some Less → kinds q r ≡ Some Less → kinds p r ≡ (Some Less)
    passes None None r h k = not-less refl h
    passes None (Some q) r h k = not-less refl h
    passes (Some p) None r h k = not-less refl h
    passes (Some p) (Some q) r h k = not-less refl h

    answers : (p q r : Option TimeOffset) → kinds p q ≡ Some Equal → kinds p r ≡ kinds q r
    answers None None r e = refl
    answers None (Some q) r e = not_equal refl e
    answers (Some p) None r e = not_equal refl e
    answers (Some p) (Some q) None e = refl
    answers (Some p) (Some q) (Some r) e = refl

by_kind : (p q : Option TimeOffset) (o : Option Ordering) → in_turn (kinds p q) o ≡ pick (alike p q) o None
unfolding in_turn alike pick
by_kind None None o = refl
by_kind None (Some q) o = refl
by_kind (Some p) None o = refl
by_kind (Some p) (Some q) o = refl

-- the laws of a comparison hold of one that is the same everywhere
as-cmp : {A : Type 0} {f g : A → A → Option Ordering} → ((a b : A) → f a b ≡ g a b) → Lawful f → Lawful g
as-cmp e l =
    record {
      mirrors = λ a b. sym (e b a) ∙ l.mirrors a b ∙ ap mirror (e a b);
      passes = λ a b c h k. sym (e a c) ∙ l.passes a b c (e a b ∙ h) (e b c ∙ k);
      answers = λ a b c h. sym (e a c) ∙ l.answers a b c (e a b ∙ h) ∙ e b c;
    }

pub times-lawful : Lawful time_order
unfolding time_order
times-lawful =
    as-cmp (λ (s t : Time). by_kind s.offset t.offset (number_order (utc_seconds s) (utc_seconds t)))
    (in-turn (along (λ (t : Time). t.offset) kinds-lawful) (along utc_seconds numbers))

-- ---- Datetimes

from-time : Lawful from_time
unfolding from_time
from-time =
    optional (λ (a b : Datetime). time_order) (along (λ (u : Datetime × Time). u.1) times-lawful) (λ (a : Datetime). a.time)

from-day : Lawful from_day
unfolding from_day
from-day = then from-time (λ (a : Datetime). day_of a.day)

from-month : Lawful from_month
unfolding from_month
from-month = then from-day (λ (a : Datetime). month_of a.month)

pub lawful : Lawful order
unfolding order
lawful = in-turn (along (λ (a : Datetime). a.year) numbers) from-month

-- less and greater mirror each other
pub order-mirror : (a b : Datetime) → order b a ≡ mirror (order a b)
order-mirror = lawful.mirrors

-- less is transitive
pub order_trans : (a b c : Datetime) → order a b ≡ Some Less → order b c ≡ Some Less → order a c ≡ (Some Less)
order_trans = lawful.passes

-- two that compare equal get the same answer against any third
pub order_alike : (a b c : Datetime) → order a b ≡ Some Equal → order a c ≡ order b c
order_alike = lawful.answers
