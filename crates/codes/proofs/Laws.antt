-- What is said at once, word by word: the words of points and times are below the one that says nothing, and those of a text are made of them.
-- Assumes nothing.
use mathlib.Core.Path.{◌≡◌, refl, sym, ap, ◌∙◌}
use mathlib.Core.Bool.{Bool, true, false, ◌&&◌, ◌||◌}
use mathlib.Core.List.{List, [], ◌∷◌}
use Prim.Native.Nat.{ℕ, ◌+◌, ◌-◌, ◌*◌, ◌≤◌, ◌<◌}
use native.Mathlib.Omega.{arith}
use lib.Dec.{eqb, ltb}
use lib.IntN.{pos}
use lib.ListN.{length, get_or, take, get_or-eq_default}
use borrow.Author.Tests.{eqb-true, ltb-true, ltb-false}
use Rattle.chars.specs.Pick.{pick}
use Rattle.chars.specs.Classes.{is_ascii_digit}
use Rattle.chars.proofs.Cases.{by-test, and-true}
use Rattle.strict.proofs.Digits.{digit}
use Rattle.dates.specs.declared.TimeOffset.TheVariants.{Offset}
use Rattle.dates.specs.declared.TimeOffset.{TimeOffset}
use Rattle.std.specs.Prelude.{Some, None, Result, Ok, Err, Option}
use Rattle.dates.specs.declared.Datetime.{Datetime}
use Rattle.dates.specs.declared.DateValue.{DateValue}
use Rattle.dates.specs.declared.DateValue.TheVariants.{At, After, Before, Between}
use Rattle.dates.specs.Ends.{EachEnd}
use Rattle.dates.specs.Calendar.{month_length}
use Rattle.dates.specs.Time.{time}
use Rattle.dates.specs.Value.{datetime, month, day, date}
use Rattle.dates.specs.declared.Date.{Date}
use Rattle.refusals.specs.declared.Refusal.{Refusal}
use Rattle.refusals.specs.Refusal.{number}
use Rattle.refusals.proofs.Told.{number_in}
use Rattle.datefield.specs.Text.{last_byte, is_uncertain, is_approximate, unmarked}
use Rattle.codes.specs.declared.Words.{Words}
use Rattle.codes.specs.Words.{nothing, twos, four_bytes, sort_of, day_word, time_word, point_word, clock_word, shift_word, zone_word, words, flag, marks_of, value_words, value_or, words_of, words_or}
use Rattle.codes.specs.Points.{two_of, four_of, two_at, year_of, counted_from, part_at, year_point, month_point, day_point, is_clock, is_shift, shift_by, zone_of, on_some, time_of, point_of}
use Rattle.codes.specs.Typed.{DatetimeTyped, Typed}
use Rattle.codes.specs.Texts.{is_slash, timed, value_of, written}

-- numbers of two digits and of four, and those of the parts of a point
two-most : (a b : ℕ) → two_of a b ≤ 100
unfolding two_of
two-most a b =
    by-test (λ (n : ℕ). n ≤ 100) (is_ascii_digit a && is_ascii_digit b)
    (λ t.
    let p = digit a (and-true (is_ascii_digit a) _ t).0 in
    let q = digit b (and-true (is_ascii_digit a) _ t).1 in
    omega (arith, p.low, p.high, q.low, q.high))
    (λ _. omega arith)

four-most : (a b c d : ℕ) → four_of a b c d ≤ 10000
unfolding four_of
four-most a b c d =
    by-test (λ (n : ℕ). n ≤ 10000) (ltb (two_of a b) 100 && ltb (two_of c d) 100)
    (λ t.
    let p = ltb-true (two_of a b) 100 (and-true (ltb (two_of a b) 100) _ t).0 in
    let q = ltb-true (two_of c d) 100 (and-true (ltb (two_of a b) 100) _ t).1 in
    omega (arith, p, q))
    (λ _. omega arith)

year-most : (s : List ℕ) → year_of s ≤ 10000
unfolding year_of
year-most s = four-most (get_or s 0 0) (get_or s 1 0) (get_or s 2 0) (get_or s 3 0)

counted-most : (n : ℕ) → n ≤ 100 → counted_from n ≤ 100
unfolding counted_from
counted-most n h = by-test (λ (k : ℕ). k ≤ 100) (eqb n 0) (λ _. omega arith) (λ _. omega arith)

part-most : (s : List ℕ) (at : ℕ) → part_at s at ≤ 100
unfolding part_at
part-most s at =
    by-test (λ (k : ℕ). k ≤ 100) (eqb (get_or s at 0) 45)
    (λ _. counted-most (two_of (get_or s (at + 1) 0) (get_or s (at + 2) 0)) (two-most (get_or s (at + 1) 0) (get_or s (at + 2) 0)))
    (λ _. omega arith)

-- a point without a time: its second word is 0, and its first is not the one that says nothing
abbrev pub Plain : Option Datetime → Type 0
Plain None = Unit {0}
Plain (Some d) = (time_word d ≡ 0) × (day_word d < nothing)

module _ (s : List ℕ) where
  day-below : day_word (datetime (pos (year_of s)) (month (part_at s 4)) (day (part_at s 7)) None) < nothing
  unfolding twos
  day-below = omega (arith, year-most s, part-most s 4, part-most s 7)

  pub plain-point : Plain (point_of s)
  unfolding point_of year_point month_point day_point twos
  plain-point =
      by-test Plain (eqb (length s) 4) (λ _. by-test Plain (ltb (year_of s) 10000) (λ _. (refl, omega (arith, year-most s))) (λ _. tt))
      (λ _.
      by-test Plain (eqb (length s) 7)
      (λ _.
      by-test Plain (ltb (year_of s) 10000 && ltb (part_at s 4) 12) (λ _. (refl, omega (arith, year-most s, part-most s 4))) (λ _. tt))
      (λ _.
      by-test Plain (eqb (length s) 10)
      (λ _.
      by-test Plain (ltb (year_of s) 10000 && (ltb (part_at s 4) 12 && ltb (part_at s 7) (month_length (part_at s 4) (pos (year_of s)))))
      (λ _. (refl, day-below))
      (λ _. tt))
      (λ _. tt)))

-- an offset of a sign, as its part of the word
pub shifted : (positive : Bool) (s : List ℕ) → shift_word (is_shift s) (sort_of (Offset positive 0 0)) (two_at s 20) (two_at s 23) ≡ zone_word (shift_by positive s)
unfolding shift_by pick
shifted positive s = go (is_shift s) positive (two_at s 20) (two_at s 23)
  where
    go : (t positive : Bool) (h m : ℕ) → shift_word t (sort_of (Offset positive 0 0)) h m ≡ zone_word (pick t (Some (Some (Offset positive h m))) None)
    go true true h m = refl
    go true false h m = refl
    go false positive h m = refl

-- what stands behind the seconds is below the word that says nothing, and there is room for a clock
abbrev Short : Option (Option TimeOffset) → Type 0
Short None = Unit {0}
Short (Some o) = zone_word (Some o) < 72057594037927936

short-shift : (positive : Bool) (s : List ℕ) → Short (shift_by positive s)
unfolding shift_by
short-shift positive s =
    by-test Short (is_shift s)
    (λ _. go positive (two_at s 20) (two_at s 23) (two-most (get_or s 20 0) (get_or s 21 0)) (two-most (get_or s 23 0) (get_or s 24 0)))
    (λ _. tt)
  where
    go : (positive : Bool) (h m : ℕ) → h ≤ 100 → m ≤ 100 → Short (Some (Some (Offset positive h m)))
    go true h m p q = omega arith
    go false h m p q = omega arith

short-zone : (s : List ℕ) → Short (zone_of s)
unfolding zone_of
short-zone s =
    by-test Short (eqb (length s) 19) (λ _. omega arith)
    (λ _.
    by-test Short (eqb (length s) 20) (λ _. by-test Short (eqb (get_or s 19 0) 90) (λ _. omega arith) (λ _. tt))
    (λ _.
    by-test Short (eqb (length s) 25)
    (λ _.
    by-test Short (eqb (get_or s 19 0) 43) (λ _. short-shift true s)
    (λ _. by-test Short (eqb (get_or s 19 0) 45) (λ _. short-shift false s) (λ _. tt)))
    (λ _. tt)))

-- the words of a shape with one point
pub one_side : (x : Option Datetime) → Plain x → (make : Datetime → DateValue) (shape marks : ℕ) {r : Words} {w : ℕ}
    → ((d : Datetime) → value_or (Some (make d)) marks ≡ words 0 0 (day_word d) (time_word d) 0 0 (shape + marks))
    → w ≡ point_word x → (w ≡ nothing → r ≡ words_or None) → ((w ≡ nothing → ⊥) → r ≡ words 0 0 w 0 0 0 (shape + marks))
    → r ≡ value_or (on_some x λ d. Some (make d)) marks
unfolding on_some
one_side None p make shape marks h e f g = f e
one_side (Some d) p make shape marks h e f g = g (λ n. absurd (omega (arith, e, n, p.1))) ∙ rw (e, h d, p.0)

-- those of a range with two
pub two-sides : (x y : Option Datetime) → Plain x → Plain y → (marks : ℕ) {r : Words} {a b : ℕ} → a ≡ point_word x → b ≡ point_word y
    → (a ≡ nothing → r ≡ words_or None) → (b ≡ nothing → r ≡ words_or None)
    → ((a ≡ nothing → ⊥) → (b ≡ nothing → ⊥) → r ≡ words 0 0 a 0 b 0 (3 + marks))
    → r ≡ value_or (on_some x λ p. on_some y λ q. Some (Between p q)) marks
unfolding on_some
two-sides None y p q marks e f g h k = g e
two-sides (Some c) None p q marks e f g h k = h f
two-sides (Some c) (Some d) p q marks e f g h k =
    k (λ n. absurd (omega (arith, e, n, p.1))) (λ n. absurd (omega (arith, f, n, q.1))) ∙ rw (e, f, p.0, q.0)

-- those of a point with a time, by the words of its day, its clock and what stands behind it
pub record Timed (d c z marks : ℕ) (v : Words) : Type 0 where
  pub no_day : d ≡ nothing → words_or None ≡ v
  pub no_clock : c ≡ nothing → words_or None ≡ v
  pub no_zone : z ≡ nothing → words_or None ≡ v
  pub said : (d ≡ nothing → ⊥) → (c ≡ nothing → ⊥) → (z ≡ nothing → ⊥) → words 0 0 d (c + z) 0 0 marks ≡ v
  pub room : (c ≡ nothing → ⊥) → (z ≡ nothing → ⊥) → c + z < 18446744073709551616

module _ (y m n h i j marks : ℕ) (below : day_word (datetime (pos y) (month m) (day n) None) < nothing) (clock-below : clock_word true h i j < 4294967296) where
  timed-by : (k : Bool) (z : Option (Option TimeOffset)) (t : Bool) → Short z
      → Timed (point_word (pick t (Some (datetime (pos y) (month m) (day n) None)) None)) (clock_word k h i j) (zone_word z) marks
      (value_or
      (on_some (pick k (on_some z λ o. Some (Some (time h i j o))) None) λ u.
      on_some (pick t (Some (datetime (pos y) (month m) (day n) u)) None) λ d. Some (At d))
      marks)
  unfolding on_some pick
  timed-by true (Some o) true l =
      record {
        no_day = λ e. absurd (omega (arith, e, below));
        no_clock = λ e. absurd (omega (arith, e, clock-below));
        no_zone = λ e. absurd (omega (arith, e, l));
        said = λ a b c. refl;
        room = λ a b. omega (arith, clock-below, l);
      }
  timed-by true (Some o) false l =
      record { no_day = λ e. refl; no_clock = λ e. refl; no_zone = λ e. refl; said = λ a b c. absurd (a refl); room = λ a b. omega (arith, clock-below, l) }
  timed-by true None t l =
      record { no_day = λ e. refl; no_clock = λ e. refl; no_zone = λ e. refl; said = λ a b c. absurd (c refl); room = λ a b. absurd (b refl) }
  timed-by false z t l =
      record { no_day = λ e. refl; no_clock = λ e. refl; no_zone = λ e. refl; said = λ a b c. absurd (b refl); room = λ a b. absurd (a refl) }

pub timed-is : (s : List ℕ) (marks : ℕ) {d c z : ℕ} → d ≡ point_word (day_point s None)
    → c ≡ clock_word (is_clock s) (two_at s 11) (two_at s 14) (two_at s 17) → z ≡ zone_word (zone_of s) → Timed d c z marks (value_or (timed s) marks)
unfolding timed time_of day_point
timed-is s marks e f g =
    rw (e, f, g)
    (timed-by (year_of s) (part_at s 4) (part_at s 7) (two_at s 11) (two_at s 14) (two_at s 17) marks (day-below s)
    (omega (arith, two-most (get_or s 11 0) (get_or s 12 0), two-most (get_or s 14 0) (get_or s 15 0), two-most (get_or s 17 0) (get_or s 18 0)))
    (is_clock s) (zone_of s) (ltb (year_of s) 10000 && (ltb (part_at s 4) 12 && ltb (part_at s 7) (month_length (part_at s 4) (pos (year_of s)))))
    (short-zone s))

-- a slash that is there is within the text
pub slash-in : (s : List ℕ) (k : ℕ) → is_slash s k ≡ true → k < length s
unfolding is_slash
slash-in s k e = by_cases (ltb k (length s)) refl
  where
    by_cases : (t : Bool) → ltb k (length s) ≡ t → k < length s
    by_cases true h = ltb-true k (length s) h
    by_cases false h =
        let z = get_or-eq_default s 0 (ltb-false k (length s) h) in
        let f = eqb-true (get_or s k 0) 47 e in
        absurd (omega arith)

-- marks as a number: a text with one is not empty, and loses its last byte
pub marks-most : (u a : Bool) → marks_of u a ≤ 65792
marks-most true true = omega arith
marks-most true false = omega arith
marks-most false true = omega arith
marks-most false false = omega arith

pub marked-some : (s : List ℕ) {m : ℕ} → m ≡ marks_of (is_uncertain (last_byte s)) (is_approximate (last_byte s)) → (m ≡ 0 → ⊥) → 0 < length s
unfolding last_byte is_uncertain is_approximate
marked-some [] e h = absurd (h e)
marked-some (x ∷ t) e h = omega arith

pub without : (s : List ℕ) {m : ℕ} → m ≡ marks_of (is_uncertain (last_byte s)) (is_approximate (last_byte s)) → m ≡ 0 → unmarked s ≡ s
unfolding unmarked pick
without s e z = go (is_uncertain (last_byte s)) (is_approximate (last_byte s)) (sym e ∙ z)
  where
    go : (u a : Bool) → marks_of u a ≡ 0 → pick (u || a) (take (length s - 1) s) s ≡ s
    go true true h = absurd (omega arith)
    go true false h = absurd (omega arith)
    go false true h = absurd (omega arith)
    go false false h = refl

pub without-last : (s : List ℕ) {m : ℕ} → m ≡ marks_of (is_uncertain (last_byte s)) (is_approximate (last_byte s)) → (m ≡ 0 → ⊥) → unmarked s ≡ take (length s - 1) s
unfolding unmarked pick
without-last s e z = go (is_uncertain (last_byte s)) (is_approximate (last_byte s)) (λ h. z (e ∙ h))
  where
    go : (u a : Bool) → (marks_of u a ≡ 0 → ⊥) → pick (u || a) (take (length s - 1) s) s ≡ take (length s - 1) s
    go true a h = refl
    go false true h = refl
    go false false h = absurd (h refl)

-- a point or range with its marks is a Date
marked-words : (x : Option DateValue) (u a : Bool) → value_or x (marks_of u a) ≡ words_or (on_some x λ v. Some (Ok (date v u a)))
unfolding on_some
marked-words None u a = refl
marked-words (Some (At d)) u a = ap (words 0 0 (day_word d) (time_word d) 0 0) (omega arith)
marked-words (Some (After d)) u a = ap (words 0 0 (day_word d) (time_word d) 0 0) (omega arith)
marked-words (Some (Before d)) u a = ap (words 0 0 (day_word d) (time_word d) 0 0) (omega arith)
marked-words (Some (Between c d)) u a = ap (words 0 0 (day_word c) (time_word c) (day_word d) (time_word d)) (omega arith)

pub text_is : (s : List ℕ) {m : ℕ} {t : List ℕ} {r : Words} → m ≡ marks_of (is_uncertain (last_byte s)) (is_approximate (last_byte s)) → unmarked s ≡ t
    → r ≡ value_or (value_of t) m → r ≡ words_or (written s)
unfolding written
text_is s e f g = g ∙ rw (← f, e, marked-words (value_of (unmarked s)) (is_uncertain (last_byte s)) (is_approximate (last_byte s)))

-- what a reader answers, by its parts
pub accepted-words : {r : Result Date Refusal} (d : Date) {v : DateValue} {m : ℕ} {w : Words} → r ≡ Ok d → d.value ≡ v
    → m ≡ marks_of d.uncertain d.approximate → w ≡ value_or (Some v) m → EachEnd DatetimeTyped v → (w ≡ words_of r) × Typed r
unfolding on_some
accepted-words d e f g h t =
    rw e (h ∙ rw (g, ← f) (marked-words (Some d.value) d.uncertain d.approximate), rw f t)

pub refused-words : {r : Result Date Refusal} (e : Refusal) {n : ℕ} → r ≡ Err e → n ≡ four_bytes (number e.kind) 0 0 0 → e.place.0 < 18446744073709551616
    → e.place.1 < 18446744073709551616 → (words e.place.0 e.place.1 0 0 0 0 (4294967296 * n) ≡ words_of r) × Typed r
refused-words e f g h k = rw (f, g) (ap (words e.place.0 e.place.1 0 0 0 0) (omega arith), (h, k))

-- what is said at once is told by the last word: whether there is anything, and whether it is a Date
pub told : (x : Option (Result Date Refusal)) → ((words_or x).last ≡ nothing → ⊥) → (r : Result Date Refusal) × (x ≡ Some r)
told None h = absurd (h refl)
told (Some r) h = (r, refl)

value-last : (v : DateValue) (u a : Bool) → (value_words v (flag u) (flag a)).last < 4294967296
value-last v u a = go v (flag u) (flag a) (flag-most u) (flag-most a)
  where
    flag-most : (b : Bool) → flag b ≤ 1
    flag-most true = omega arith
    flag-most false = omega arith

    go : (v : DateValue) (u a : ℕ) → u ≤ 1 → a ≤ 1 → (value_words v u a).last < 4294967296
    go (At d) u a p q = omega arith
    go (After d) u a p q = omega arith
    go (Before d) u a p q = omega arith
    go (Between c d) u a p q = omega arith

pub accepted-last : (d : Date) → (words_of (Ok d)).last < 4294967296
accepted-last d = value-last d.value d.uncertain d.approximate

pub refused-last : (e : Refusal) → 4294967296 ≤ (words_of (Err e)).last
refused-last e = let n = (number_in e.kind).0 in omega arith

pub last-accepted : (r : Result Date Refusal) → (words_or (Some r)).last < 4294967296 → (d : Date) × (r ≡ Ok d)
last-accepted (Ok d) h = (d, refl)
last-accepted (Err e) h = absurd (omega (arith, h, refused-last e))

pub last-refused : (r : Result Date Refusal) → 4294967296 ≤ (words_or (Some r)).last → (e : Refusal) × (r ≡ Err e)
last-refused (Ok d) h = absurd (omega (arith, h, accepted-last d))
last-refused (Err e) h = (e, refl)

-- the last word of what is said is never the one that says nothing
pub untold : (x : Option (Result Date Refusal)) → (words_or x).last ≡ nothing → x ≡ None
untold None e = refl
untold (Some (Ok d)) e = absurd (omega (arith, e, accepted-last d))
untold (Some (Err q)) e = let n = (number_in q.kind).1 in absurd (omega (arith, e))
