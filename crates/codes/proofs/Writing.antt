-- The text of words, measured and put piece by piece. Over plain variables. Assumes nothing.
use mathlib.Core.Path.{◌≡◌, refl, sym, ap, ◌∙◌}
use mathlib.Core.Bool.{Bool, true, false, ◌&&◌, ◌||◌}
use mathlib.Core.List.{List, [], ◌∷◌, ◌++◌, append-nil}
use Prim.Native.Nat.{ℕ, suc, ◌+◌, ◌-◌, ◌/◌, ◌%◌, ◌≤◌, ◌<◌}
use native.Mathlib.Nat.{zero-add}
use native.Mathlib.Numerals.{add-one}
use native.Mathlib.Omega.{arith}
use lib.Dec.{eqb, ltb, leb}
use lib.ListN.{length, set, length-append}
use borrow.Author.Tests.{lt-ltb, le-ltb, le-leb, lt-leb, eq-eqb, ne_eqb, ltb-true, ltb-false, leb-true, leb-false, eqb-true, eqb-false}
use Rattle.chars.specs.Ascii.{ascii}
use Rattle.chars.specs.Pick.{pick}
use Rattle.chars.proofs.Cases.{of_test, and-true}
use Rattle.puts.specs.Answers.{Put}
use Rattle.puts.specs.Marks.{mark_text}
use Rattle.puts.specs.Numbers.{digits}
use Rattle.puts.proofs.Puts.{at_front}
use Rattle.codes.specs.Back.{year_in, has_month_in, month_in, has_day_in, day_in, is_set, is_plain_year, is_plain_word, year_digits, part_digits, day_digits, month_digits, point_text, shaped_text, words_text, is_plain, plain_length, has_room, words_put}

-- ---- what is plain

second-true : (a b : Bool) → a || b ≡ true → a ≡ false → b ≡ true
second-true a b e f = rw f at e

module _ (n : ℕ) where
  pub plain-year : n < 4294967296 → ltb ((n + 9999) % 4294967296) 19999 ≡ is_plain_year n
  unfolding is_plain_year
  plain-year h =
      of_test (ltb n 10000)
      (λ p. let q = ltb-true n 10000 p in rw (p, lt-ltb ((n + 9999) % 4294967296) 19999 (omega arith)))
      (λ p.
      let q = ltb-false n 10000 p in
      of_test (leb 4294957297 n)
      (λ r. let s = leb-true 4294957297 n r in rw (p, r, lt-ltb ((n + 9999) % 4294967296) 19999 (omega arith)))
      (λ r. let s = leb-false 4294957297 n r in rw (p, r, le-ltb ((n + 9999) % 4294967296) 19999 (omega arith))))

  -- a plain year that is not below 10000 is negative
  pub plain-high : is_plain_year n ≡ true → 10000 ≤ n → 4294957297 ≤ n
  unfolding is_plain_year
  plain-high e h = leb-true 4294957297 n (second-true (ltb n 10000) (leb 4294957297 n) e (le-ltb n 10000 h))

  pub year-four : n < 10000 → year_digits n ≡ digits 4 n
  unfolding year_digits pick
  year-four h = rw (lt-ltb n 10000 h)

  pub year-five : 10000 ≤ n → year_digits n ≡ (45 ∷ []) ++ digits 4 (4294967296 - n)
  unfolding year_digits pick
  year-five h = rw (le-ltb n 10000 h)

  pub four-split : n < 10000 → digits 4 n ≡ digits 2 (n / 100) ++ digits 2 (n % 100)
  four-split h =
      let a : n / 10 / 10 / 10 % 10 ≡ n / 100 / 10 % 10 = omega arith in
      let b : n / 10 / 10 % 10 ≡ n / 100 % 10 = omega arith in
      let c : n / 10 % 10 ≡ n % 100 / 10 % 10 = omega arith in
      let d : n % 10 ≡ n % 100 % 10 = omega arith in
      λ i. (48 + a i) ∷ (48 + b i) ∷ (48 + c i) ∷ (48 + d i) ∷ []

-- ---- months and days

module _ (w : ℕ) where
  pub word-year : is_plain_word w ≡ true → is_plain_year (year_in w) ≡ true
  unfolding is_plain_word
  word-year e = (and-true (is_plain_year (year_in w)) (ltb (month_in w) 99 && ltb (day_in w) 99) e).0

  pub word-month : is_plain_word w ≡ true → month_in w < 99
  unfolding is_plain_word
  word-month e =
      ltb-true (month_in w) 99
      (and-true (ltb (month_in w) 99) (ltb (day_in w) 99) (and-true (is_plain_year (year_in w)) (ltb (month_in w) 99 && ltb (day_in w) 99) e).1).0

  pub word-day : is_plain_word w ≡ true → day_in w < 99
  unfolding is_plain_word
  word-day e =
      ltb-true (day_in w) 99
      (and-true (ltb (month_in w) 99) (ltb (day_in w) 99) (and-true (is_plain_year (year_in w)) (ltb (month_in w) 99 && ltb (day_in w) 99) e).1).1

  pub no_month : has_month_in w ≡ 0 → month_digits w ≡ []
  unfolding month_digits pick
  no_month e = rw (eq-eqb (has_month_in w) 0 e)

  pub some-month : (has_month_in w ≡ 0 → ⊥) → month_digits w ≡ part_digits (month_in w) ++ day_digits w
  unfolding month_digits pick
  some-month e = rw (ne_eqb (has_month_in w) 0 e)

  no_day : has_day_in w ≡ 0 → day_digits w ≡ []
  unfolding day_digits pick
  no_day e = rw (eq-eqb (has_day_in w) 0 e)

  some-day : (has_day_in w ≡ 0 → ⊥) → day_digits w ≡ part_digits (day_in w)
  unfolding day_digits pick
  some-day e = rw (ne_eqb (has_day_in w) 0 e)

  pub month-only : (has_month_in w ≡ 0 → ⊥) → has_day_in w ≡ 0 → month_digits w ≡ part_digits (month_in w)
  month-only e f = some-month e ∙ rw (no_day f, append-nil)

  pub month-day : (has_month_in w ≡ 0 → ⊥) → (has_day_in w ≡ 0 → ⊥) → month_digits w ≡ part_digits (month_in w) ++ part_digits (day_in w)
  month-day e f = some-month e ∙ rw (some-day f)

-- ---- lengths

pub added : (a b : List ℕ) {m n : ℕ} → m ≡ length a → n ≡ length b → m + n ≡ length (a ++ b)
added a b e f = rw (length-append a b, e, f)

-- of a word, by those of its year and of what is behind it
module _ (w : ℕ) {k : ℕ} (e : (k ≡ length (year_digits (year_in w))) × (k ≤ 5)) where
  pub year-alone : has_month_in w ≡ 0 → (k ≡ length (point_text w)) × (k ≤ 11)
  unfolding point_text
  year-alone f = (rw (no_month w f, append-nil) e.0, omega arith)

  pub with-month : (has_month_in w ≡ 0 → ⊥) → has_day_in w ≡ 0 → (k + 3 ≡ length (point_text w)) × (k + 3 ≤ 11)
  unfolding point_text part_digits
  with-month f g = (added (year_digits (year_in w)) (month_digits w) e.0 (sym (ap length (month-only w f g))), omega arith)

  pub with-day : (has_month_in w ≡ 0 → ⊥) → (has_day_in w ≡ 0 → ⊥) → (k + 6 ≡ length (point_text w)) × (k + 6 ≤ 11)
  unfolding point_text part_digits
  with-day f g = (added (year_digits (year_in w)) (month_digits w) e.0 (sym (ap length (month-day w f g))), omega arith)

-- ---- shapes

module _ (s a b : ℕ) where
  pub shaped-at : s ≡ 0 → shaped_text s a b ≡ point_text a
  unfolding shaped_text pick
  shaped-at e = rw (eq-eqb s 0 e)

  pub shaped-after : s ≡ 1 → shaped_text s a b ≡ point_text a ++ ascii "/.."
  unfolding shaped_text pick
  shaped-after e = rw (ne_eqb s 0 (λ q. omega arith), eq-eqb s 1 e)

  pub shaped-before : s ≡ 2 → shaped_text s a b ≡ ascii "../" ++ point_text a
  unfolding shaped_text pick
  shaped-before e = rw (ne_eqb s 0 (λ q. omega arith), ne_eqb s 1 (λ q. omega arith), eq-eqb s 2 e)

  pub shaped-between : (s ≡ 2 → ⊥) → (s ≡ 0 → ⊥) → (s ≡ 1 → ⊥) → shaped_text s a b ≡ point_text a ++ ascii "/" ++ point_text b
  unfolding shaped_text pick
  shaped-between e f g = rw (ne_eqb s 0 f, ne_eqb s 1 g, ne_eqb s 2 e)

  -- but for Before a text starts with its point
  pub point-fits : (s ≡ 2 → ⊥) → (l : List ℕ) → length (shaped_text s a b) ≤ length l → 0 + length (point_text a) ≤ length l
  point-fits e l h =
      of_test (eqb s 0)
      (λ p. let q = ap length (shaped-at (eqb-true s 0 p)) in omega arith)
      (λ p.
      of_test (eqb s 1)
      (λ r.
      let q = ap length (shaped-after (eqb-true s 1 r)) in
      let t = length-append (point_text a) (ascii "/..") in
      omega arith)
      (λ r.
      let q = ap length (shaped-between e (eqb-false s 0 p) (eqb-false s 1 r)) in
      let t = length-append (point_text a) (ascii "/") in
      let u = length-append (point_text a ++ ascii "/") (point_text b) in
      omega arith))

  -- the lengths
  module _ {n : ℕ} (e : (n ≡ length (point_text a)) × (n ≤ 11)) where
    pub point-length : s ≡ 0 → (n ≡ length (shaped_text s a b)) × (n ≤ 23)
    point-length f = (rw (shaped-at f) e.0, omega arith)

    pub open-length : (s ≡ 0 → ⊥) → s < 3 → (n + 3 ≡ length (shaped_text s a b)) × (n + 3 ≤ 23)
    open-length f h = (
      of_test (eqb s 1)
          (λ r. rw (shaped-after (eqb-true s 1 r)) (added (point_text a) (ascii "/..") e.0 refl))
          (λ r.
          let q = eqb-false s 1 r in
          let t = length-append (ascii "../") (point_text a) in
          let u : s ≡ 2 = omega arith in
          rw (shaped-before u) (omega arith)),
      omega arith,
    )

    pub closed-length : {m : ℕ} → (m ≡ length (point_text b)) × (m ≤ 11) → (s ≡ 0 → ⊥) → 3 ≤ s → (n + 1 + m ≡ length (shaped_text s a b)) × (n + 1 + m ≤ 23)
    closed-length g f h =
        (rw (shaped-between (λ q. omega arith) f (λ q. omega arith)) (added (point_text a ++ ascii "/") (point_text b) (added (point_text a) (ascii "/") e.0 refl) g.0), omega arith)

-- ---- bytes that were stored one behind the other

pub stored-two : (x y : ℕ) (l : List ℕ) (at : ℕ) → Put (x ∷ y ∷ []) l at (set (set l at x) (at + 1) y) (at + 2)
stored-two x y l at = record { behind = refl; bytes = rw (add-one at) }

pub stored-three : (x y z : ℕ) (l : List ℕ) (at : ℕ) → Put (x ∷ y ∷ z ∷ []) l at (set (set (set l at x) (at + 1) y) (at + 2) z) (at + 3)
stored-three x y z l at = let e : at + 2 ≡ suc (suc at) = omega arith in record { behind = refl; bytes = rw (add-one at, e) }

pub two_digits : (n : ℕ) → n < 100 → digits 2 n ≡ (48 + n / 10) ∷ (48 + n % 10) ∷ []
two_digits n h = let e : n / 10 % 10 ≡ n / 10 = omega arith in rw e

-- ---- the whole text

pub three_up : (s : ℕ) → (s ≡ 2 → ⊥) → (s ≡ 0 → ⊥) → (s ≡ 1 → ⊥) → 3 ≤ s
three_up s f g h = omega arith

module _ (a b last : ℕ) where
  pub plain-first : is_plain a b last ≡ true → is_plain_word a ≡ true
  unfolding is_plain
  plain-first e = (and-true (is_plain_word a) (ltb (last % 256) 3 || is_plain_word b) e).0

  pub plain_second : is_plain a b last ≡ true → (last % 256 ≡ 2 → ⊥) → (last % 256 ≡ 0 → ⊥) → (last % 256 ≡ 1 → ⊥) → is_plain_word b ≡ true
  unfolding is_plain
  plain_second e f g h =
      second-true (ltb (last % 256) 3) (is_plain_word b) (and-true (is_plain_word a) (ltb (last % 256) 3 || is_plain_word b) e).1 (le-ltb (last % 256) 3 (three_up (last % 256) f g h))

  pub shaped-fits : (l : List ℕ) → length (words_text a b last) ≤ length l → length (shaped_text (last % 256) a b) ≤ length l
  unfolding words_text
  shaped-fits l h =
      let e = length-append (shaped_text (last % 256) a b) (mark_text (is_set (last / 256 % 256)) (is_set (last / 65536 % 256))) in omega arith

  module _ {l : List ℕ} where
    pub all-put : {m : List ℕ} {r : ℕ} → is_plain a b last ≡ true → length (words_text a b last) ≤ length l → Put (words_text a b last) l 0 m r
        → (r ≡ pick (has_room a b last (length l)) (length (words_text a b last)) 0) × (m ≡ words_put a b last l)
    unfolding has_room words_put pick
    all-put e h p =
        rw (e, le-leb (length (words_text a b last)) (length l) h) (p.behind ∙ zero-add (length (words_text a b last)), at_front h p)

    pub no_room : is_plain a b last ≡ true → length l < length (words_text a b last)
        → (0 ≡ pick (has_room a b last (length l)) (length (words_text a b last)) 0) × (l ≡ words_put a b last l)
    unfolding has_room words_put pick
    no_room e h = rw (e, lt-leb (length (words_text a b last)) (length l) h) (refl, refl)

    pub not_plain : is_plain a b last ≡ false
        → (0 ≡ pick (has_room a b last (length l)) (length (words_text a b last)) 0) × (l ≡ words_put a b last l)
    unfolding has_room words_put pick
    not_plain e = rw e (refl, refl)

  -- the length
  pub plain-length : {n : ℕ} → is_plain a b last ≡ true → (n ≡ length (words_text a b last)) × (n ≤ 24) → (n ≡ plain_length a b last) × (n ≤ 24)
  unfolding plain_length pick
  plain-length e h = (rw e h.0, h.1)

  pub other_length : is_plain a b last ≡ false → (0 ≡ plain_length a b last) × (0 ≤ 24)
  unfolding plain_length pick
  other_length e = (rw e, omega arith)

-- a mark has one byte, if there is one
length-marks : (u a : Bool) → length (mark_text u a) ≡ pick u 1 (pick a 1 0)
unfolding mark_text pick
length-marks true true = refl
length-marks true false = refl
length-marks false true = refl
length-marks false false = refl

module _ (u a : Bool) where
  pub uncertain-length : u ≡ true → (1 ≡ length (mark_text u a)) × (1 ≤ 1)
  unfolding pick
  uncertain-length e = (rw (length-marks u a, e), omega arith)

  pub approximate-length : u ≡ false → a ≡ true → (1 ≡ length (mark_text u a)) × (1 ≤ 1)
  unfolding pick
  approximate-length e f = (rw (length-marks u a, e, f), omega arith)

  pub unmarked-length : u ≡ false → a ≡ false → (0 ≡ length (mark_text u a)) × (0 ≤ 1)
  unfolding pick
  unmarked-length e f = (rw (length-marks u a, e, f), omega arith)
