-- The text of plain words is what the writer makes of the Date that they say. Assumes nothing.
use mathlib.Core.Path.{◌≡◌, refl, sym, ap, ◌∙◌, subst}
use mathlib.Core.Bool.{Bool, true, false}
use mathlib.Core.List.{List, [], ◌∷◌, ◌++◌, append-nil}
use Prim.Native.Nat.{ℕ, suc, ◌+◌, ◌-◌, ◌/◌, ◌≤◌, ◌<◌}
use native.Mathlib.Omega.{arith}
use lib.Dec.{eqb, ltb}
use lib.IntN.{ℤ, pos, negsuc}
use lib.Signed.{mag}
use borrow.Author.Tests.{ne_eqb, ltb-true, ltb-false, eqb-false}
use Rattle.chars.specs.Ascii.{ascii}
use Rattle.chars.specs.Pick.{pick}
use Rattle.chars.proofs.Cases.{of_test}
use Rattle.dates.specs.declared.Day.{Day}
use Rattle.dates.specs.declared.Month.{Month}
use Rattle.dates.specs.declared.Season.{Season}
use Rattle.dates.specs.declared.Season.TheVariants.{Autumn, Spring, Summer, Winter}
use Rattle.dates.specs.declared.Time.{Time}
use Rattle.std.specs.Prelude.{Option, Some, None, Ok}
use Rattle.dates.specs.declared.Datetime.{Datetime}
use Rattle.dates.specs.declared.DateValue.{DateValue}
use Rattle.dates.specs.declared.DateValue.TheVariants.{At, After, Before, Between}
use Rattle.dates.specs.declared.Date.{Date}
use Rattle.dates.specs.Ends.{any_end, EachEnd}
use Rattle.dates.specs.Value.{month, day, date, is_season, has_season, season_number}
use Rattle.puts.specs.Marks.{mark_text}
use Rattle.puts.specs.Numbers.{digits, digit_count, width, decimal}
use Rattle.puts.proofs.Counts.{few, padded, unpadded}
use Rattle.writer.specs.Texts.{minus, year_text, written_month, written_day, day_parts, month_parts, parts_of, part_text, hyphen_part, parts_text, datetime_text, value_text, date_text, too_large, end_panics, value_panics, panics}
use Rattle.codes.specs.Words.{twos, flag, has_month, month_number, has_day, day_number, day_word_of, last_word, day_word, time_word, value_words, words_of}
use Rattle.codes.specs.Typed.{DatetimeTyped, Typed}
use Rattle.codes.specs.Back.{is_set, is_plain_year, is_plain_word, year_digits, part_digits, day_digits, month_digits, point_text, shaped_text, words_text, is_plain}
use Rattle.codes.specs.Unpacked.{month_of, day_of}
use Rattle.codes.proofs.Unpacking.{month-flag, day-flag, flag-in, month-back, day-back, flag-back, year-part, has-month-part, month-part, has-day-part, day-part, shape-part, uncertain-part, approximate-part}
use Rattle.codes.proofs.Writing.{plain-high, year-four, year-five, word-year, word-month, word-day, plain-first, plain_second, three_up}

-- ---- numbers

-- a number that has no more digits than it is to be written with
padded-to : (k n : ℕ) → digit_count n ≤ k → width k n ≡ k
padded-to k n h =
    of_test (ltb (digit_count n) k) (λ p. padded k n (ltb-true (digit_count n) k p))
    (λ p. let q = ltb-false (digit_count n) k p in let e : digit_count n ≡ k = omega arith in unpadded k n q ∙ e)

four_digits : (n : ℕ) → n < 10000 → decimal 4 n ≡ digits 4 n
unfolding decimal
four_digits n h = rw (padded-to 4 n (few 4 n h))

two_digits : (n : ℕ) → n < 100 → decimal 2 n ≡ digits 2 n
unfolding decimal
two_digits n h = rw (padded-to 2 n (few 2 n h))

negative-said : (k n : ℕ) → 10000 ≤ k → 4294967296 - k ≡ suc n → suc n < 10000 → year_digits k ≡ (45 ∷ []) ++ decimal 4 (suc n)
negative-said k n l e h = year-five k l ∙ rw (e, four_digits (suc n) h)

year-said : (y : ℤ) → mag y < 2147483648 → is_plain_year (twos y) ≡ true → year_digits (twos y) ≡ year_text y
unfolding twos year_text minus
year-said (pos n) h e =
    of_test (ltb n 10000) (λ p. let q = ltb-true n 10000 p in year-four n q ∙ sym (four_digits n q))
    (λ p. absurd (let q = plain-high n e (ltb-false n 10000 p) in omega arith))
year-said (negsuc n) h e =
    let l : 10000 ≤ 4294967295 - n = omega arith in
    let q = plain-high (4294967295 - n) e l in
    negative-said (4294967295 - n) n l (omega arith) (omega arith)

part-said : (m : ℕ) → m < 99 → part_digits m ≡ hyphen_part (m + 1)
unfolding part_digits hyphen_part part_text
part-said m h = ap (λ (t : List ℕ). ascii "-" ++ t) (sym (two_digits (m + 1) (omega arith)))

-- ---- points

-- a Datetime whose text is that of a word
pub record Said (w : ℕ) (d : Datetime) : Type 0 where
  -- the text
  pub text : point_text w ≡ datetime_text d
  -- it has one
  pub written : end_panics d ≡ false

-- what stands behind the year
behind : (hm m hd d : ℕ) → m < 99 → d < 99
    → (pick (is_set hm) (part_digits m ++ pick (is_set hd) (part_digits d) []) [] ≡ parts_text (month_parts (month_of hm m) (day_of hd d)))
    × (too_large (month_parts (month_of hm m) (day_of hd d)) ≡ false)
unfolding month_of day_of month_parts day_parts parts_text too_large written_month written_day pick
behind hm m hd d hm99 hd99 =
    of_test (eqb hm 0) (λ p. rw p (refl, refl))
    (λ p.
    of_test (eqb hd 0)
    (λ q. rw (p, q, ne_eqb m 255 (λ z. omega arith)) (append-nil (part_digits m) ∙ part-said m hm99, refl))
    (λ q.
    rw (p, q, ne_eqb m 255 (λ z. omega arith), ne_eqb d 255 (λ z. omega arith)) (rw (part-said m hm99, part-said d hd99), refl)))

-- the word of a year, and of a month and a day that may be absent
module _ (y : ℤ) (hm m hd d : ℕ) (fy : mag y < 2147483648) (fhm : hm < 256) (fm : m < 256) (fhd : hd < 256) (fd : d < 256) where
  pub point-said : is_plain_word (day_word_of y hm m hd d) ≡ true → (t : Option Time) (s : Option Season)
      → Said (day_word_of y hm m hd d) (record { year = y; month = month_of hm m; day = day_of hd d; time = t; season = s })
  unfolding point_text month_digits day_digits datetime_text parts_of end_panics
  point-said e t s =
      let w = day_word_of y hm m hd d in
      let yp = year-part y hm m hd d fy fhm fm fhd fd in
      let mp = month-part y hm m hd d fy fhm fm fhd fd in
      let dp = day-part y hm m hd d fy fhm fm fhd fd in
      let m99 : m < 99 = let q = word-month w e in omega arith in
      let d99 : d < 99 = let q = word-day w e in omega arith in
      let b = behind hm m hd d m99 d99 in
      let p : is_plain_year (twos y) ≡ true = ap is_plain_year (sym yp) ∙ word-year w e in
      record {
        text =
            rw (yp, has-month-part y hm m hd d fy fhm fm fhd fd, mp, has-day-part y hm m hd d fy fhm fm fhd fd, dp) (rw (year-said y fy p, b.0));
        written = b.1;
      }

-- ---- points and ranges

-- the point or range of a shape: 0 At, 1 After, 2 Before, every other number Between
abbrev pub shaped_by : ℕ → Datetime → Datetime → DateValue
shaped_by s x y = pick (eqb s 0) (At x) (pick (eqb s 1) (After x) (pick (eqb s 2) (Before x) (Between x y)))

module _ (s : ℕ) (x y : Datetime) where
  -- a test that no end passes which is there
  pub no_end : (test : Datetime → Bool) → test x ≡ false → (3 ≤ s → test y ≡ false) → any_end test (shaped_by s x y) ≡ false
  unfolding pick
  no_end test e f =
      of_test (eqb s 0) (λ p. rw p e)
      (λ p.
      of_test (eqb s 1) (λ q. rw (p, q) e)
      (λ q.
      of_test (eqb s 2) (λ r. rw (p, q, r) e)
      (λ r. rw (p, q, r) (rw (e, f (three_up s (eqb-false s 2 r) (eqb-false s 0 p) (eqb-false s 1 q)))))))

  shaped-said : (a b : ℕ) → point_text a ≡ datetime_text x → (3 ≤ s → point_text b ≡ datetime_text y) → shaped_text s a b ≡ value_text (shaped_by s x y)
  unfolding shaped_text value_text pick
  shaped-said a b e f =
      of_test (eqb s 0) (λ p. rw p e)
      (λ p.
      of_test (eqb s 1) (λ q. rw (p, q) (ap (λ (t : List ℕ). t ++ ascii "/..") e))
      (λ q.
      of_test (eqb s 2) (λ r. rw (p, q, r) (ap (λ (t : List ℕ). ascii "../" ++ t) e))
      (λ r. rw (p, q, r) (rw (e, f (three_up s (eqb-false s 2 r) (eqb-false s 0 p) (eqb-false s 1 q)))))))

-- a Date whose text is that of words
pub record TextOf (a b last : ℕ) (d : Date) : Type 0 where
  -- the text
  pub text : words_text a b last ≡ date_text d
  -- it has one
  pub written : panics d ≡ false

-- the words of a shape, of marks that are set or not, and of two Datetimes, of which only a range with both ends has the second
module _ (s u p n a b : ℕ) (hs : s < 256) (hu : u < 256) (hp : p < 256) (hn : n < 256) where
  pub words-said : (x y : Datetime) → is_plain a b (last_word s u p n) ≡ true → (is_plain_word a ≡ true → Said a x)
      → (3 ≤ s → is_plain_word b ≡ true → Said b y) → TextOf a b (last_word s u p n) (date (shaped_by s x y) (is_set u) (is_set p))
  unfolding words_text date_text panics value_panics
  words-said x y e f g =
      let l = last_word s u p n in
      let z = shape-part s u p n hs hu hp hn in
      let first = f (plain-first a b l e) in
      let second : 3 ≤ s → Said b y = λ h. g h (plain_second a b l e (λ q. omega arith) (λ q. omega arith) (λ q. omega arith)) in
      record {
        text =
            rw (z, uncertain-part s u p n hs hu hp hn, approximate-part s u p n hs hu hp hn)
            (ap (λ (t : List ℕ). t ++ mark_text (is_set u) (is_set p)) (shaped-said s x y a b first.text (λ h. (second h).text)));
        written = no_end s x y end_panics first.written (λ h. (second h).written);
      }

-- ---- what a reader answered

-- the word of a Datetime
module _ (d : Datetime) (h : DatetimeTyped d) where
  pub datetime-said : is_plain_word (day_word d) ≡ true → Said (day_word d) d
  datetime-said e =
      let b = h.bytes_typed in
      let p = month-flag d.month in
      let q = day-flag d.day in
      let s =
      point-said d.year (has_month d.month) (month_number d.month) (has_day d.day) (day_number d.day) h.year_typed (omega arith) b.0 (omega arith) b.1.0 e d.time d.season in
      subst (λ (m : Option Month). Said (day_word d) (record { year = d.year; month = m; day = d.day; time = d.time; season = d.season })) (month-back d.month)
      (subst (λ (n : Option Day). Said (day_word d) (record { year = d.year; month = month_of (has_month d.month) (month_number d.month); day = n; time = d.time; season = d.season })) (day-back d.day) s)

  -- a season is the highest byte of its second word
  pub no-season : time_word d < 72057594037927936 → has_season d ≡ false
  no-season k = go d.season refl
    where
      go : (s : Option Season) → d.season ≡ s → is_season d.season ≡ false
      go None e = rw e
      go (Some Spring) e = absurd (let z : season_number d.season ≡ 21 = ap season_number e in omega arith)
      go (Some Summer) e = absurd (let z : season_number d.season ≡ 22 = ap season_number e in omega arith)
      go (Some Autumn) e = absurd (let z : season_number d.season ≡ 23 = ap season_number e in omega arith)
      go (Some Winter) e = absurd (let z : season_number d.season ≡ 24 = ap season_number e in omega arith)

module _ (u p : Bool) where
  marks-in : (flag u < 256) × (flag p < 256)
  marks-in = let a = flag-in u in let b = flag-in p in omega arith

  -- one Datetime, and no second word
  one-said : (s : ℕ) → s < 3 → (d : Datetime) → DatetimeTyped d → is_plain (day_word d) 0 (last_word s (flag u) (flag p) 0) ≡ true
      → TextOf (day_word d) 0 (last_word s (flag u) (flag p) 0) (date (shaped_by s d d) (is_set (flag u)) (is_set (flag p)))
  one-said s k d h e =
      words-said s (flag u) (flag p) 0 (day_word d) 0 (omega arith) marks-in.0 marks-in.1 (omega arith) d d e (datetime-said d h)
      λ g. absurd (omega arith)

  value-said : (v : DateValue) → EachEnd DatetimeTyped v
      → is_plain (value_words v (flag u) (flag p)).first (value_words v (flag u) (flag p)).second (value_words v (flag u) (flag p)).last ≡ true
      → TextOf (value_words v (flag u) (flag p)).first (value_words v (flag u) (flag p)).second (value_words v (flag u) (flag p)).last (date v (is_set (flag u)) (is_set (flag p)))
  unfolding pick
  value-said (At d) h e = one-said 0 (omega arith) d h e
  value-said (After d) h e = one-said 1 (omega arith) d h e
  value-said (Before d) h e = one-said 2 (omega arith) d h e
  value-said (Between c d) h e =
      words-said 3 (flag u) (flag p) 0 (day_word c) (day_word d) (omega arith) marks-in.0 marks-in.1 (omega arith) c d e (datetime-said c h.0)
      λ g. datetime-said d h.1

-- the words of a Date
pub date-said : (d : Date) → Typed (Ok d)
    → is_plain (words_of (Ok d)).first (words_of (Ok d)).second (words_of (Ok d)).last ≡ true
    → TextOf (words_of (Ok d)).first (words_of (Ok d)).second (words_of (Ok d)).last d
date-said d h e =
    let w = words_of (Ok d) in
    let t = value-said d.uncertain d.approximate d.value h e in
    subst (λ (u : Bool). TextOf w.first w.second w.last (date d.value u d.approximate)) (flag-back d.uncertain)
    (subst (λ (p : Bool). TextOf w.first w.second w.last (date d.value (is_set (flag d.uncertain)) p)) (flag-back d.approximate) t)
