-- What was packed into words is unpacked again. Assumes nothing.
use mathlib.Core.Path.{◌≡◌, refl, sym, ap, ◌∙◌, subst}
use mathlib.Core.Bool.{Bool, true, false}
use Prim.Native.Nat.{ℕ, zero, suc, ◌-◌, ◌/◌, ◌%◌, ◌<◌, ◌≤◌}
use native.Mathlib.Omega.{arith}
use lib.Dec.{eqb}
use lib.IntN.{ℤ, pos, negsuc, ◌-ℤ◌}
use lib.Signed.{mag}
use mir.Syntax.{w32}
use mir.Val.{SFits, to_z, of_z}
use mir.ValLaws.{to_z_pos, to_z-of_z}
use borrow.Author.Tests.{lt-ltb, le-ltb, ne_eqb}
use Rattle.chars.specs.Pick.{pick}
use Rattle.dates.specs.declared.Day.{Day}
use Rattle.dates.specs.declared.Month.{Month}
use Rattle.dates.specs.declared.Season.{Season}
use Rattle.dates.specs.declared.Season.TheVariants.{Autumn, Spring, Summer, Winter}
use Rattle.dates.specs.declared.Time.{Time}
use Rattle.dates.specs.declared.TimeOffset.{TimeOffset}
use Rattle.std.specs.Prelude.{Option, Some, None, Result, Ok, Err}
use Rattle.dates.specs.declared.TimeOffset.TheVariants.{Utc, Offset}
use Rattle.dates.specs.declared.Datetime.{Datetime}
use Rattle.dates.specs.declared.DateValue.{DateValue}
use Rattle.dates.specs.declared.DateValue.TheVariants.{At, After, Before, Between}
use Rattle.dates.specs.declared.Date.{Date}
use Rattle.dates.specs.Ends.{EachEnd}
use Rattle.dates.specs.Time.{time}
use Rattle.dates.specs.Value.{season_number}
use Rattle.refusals.specs.declared.Refusal.{Refusal}
use Rattle.refusals.specs.Refusal.{number}
use Rattle.refusals.proofs.Told.{named, number_in}
use Rattle.codes.specs.Words.{twos, flag, has_month, month_number, has_day, day_number, has_time, clock_of, offset_sort, shift_of, hours_of, minutes_of, day_word_of, time_word_of, last_word, day_word, time_word, value_words, words_of}
use Rattle.codes.specs.Typed.{DatetimeTyped, Typed}
use Rattle.codes.specs.Back.{year_in, has_month_in, month_in, has_day_in, day_in, is_set}
use Rattle.codes.specs.Unpacked.{from_twos, month_of, day_of, offset_of, time_in, season_of, datetime_in, value_in, date_in, read_in}

-- a year in 32 bits
pub twos_in : (y : ℤ) → mag y < 2147483648 → twos y < 4294967296
unfolding twos
twos_in (pos n) h = omega arith
twos_in (negsuc n) h = omega arith

year-back : (y : ℤ) → mag y < 2147483648 → from_twos (twos y) ≡ y
unfolding from_twos twos pick
year-back (pos n) h = rw (lt-ltb n 2147483648 h)
year-back (negsuc n) h =
    let e : 4294967295 - (4294967295 - n) ≡ n = omega arith in
    rw (le-ltb (4294967295 - n) 2147483648 (omega arith), e)

minus_one : (m : ℕ) → negsuc 0 -ℤ pos m ≡ negsuc m
minus_one zero = refl
minus_one (suc m) = ap negsuc (omega arith)

low-is : (n : ℕ) → n < 2147483648 → from_twos n ≡ pos n
unfolding from_twos pick
low-is n h = rw (lt-ltb n 2147483648 h)

-- as the code makes it
pub from_low : (n : ℕ) → n < 2147483648 → (to_z w32 n ≡ from_twos n) × (mag (to_z w32 n) < 2147483648)
from_low n h = (to_z_pos w32 n h ∙ sym (low-is n h), rw (to_z_pos w32 n h) h)

module _ (n : ℕ) (low : 2147483648 ≤ n) (high : n < 4294967296) where
  high_is : from_twos n ≡ negsuc (4294967295 - n)
  unfolding from_twos pick
  high_is = rw (le-ltb n 2147483648 low)

  negated : negsuc 0 -ℤ to_z w32 (4294967295 - n) ≡ negsuc (4294967295 - n)
  negated = ap (λ (z : ℤ). negsuc 0 -ℤ z) (to_z_pos w32 (4294967295 - n) (omega arith)) ∙ minus_one (4294967295 - n)

  fits : SFits w32 (negsuc (4294967295 - n))
  fits = record { sfits = omega arith }

  pub high_fits : SFits w32 (negsuc 0 -ℤ to_z w32 (4294967295 - n))
  high_fits = subst (λ (z : ℤ). SFits w32 z) (sym negated) fits

  made : to_z w32 (of_z w32 (negsuc 0 -ℤ to_z w32 (4294967295 - n))) ≡ negsuc (4294967295 - n)
  made = ap (λ (z : ℤ). to_z w32 (of_z w32 z)) negated ∙ to_z-of_z w32 (negsuc (4294967295 - n)) fits

  pub from-high : (to_z w32 (of_z w32 (negsuc 0 -ℤ to_z w32 (4294967295 - n))) ≡ from_twos n)
      × (mag (to_z w32 (of_z w32 (negsuc 0 -ℤ to_z w32 (4294967295 - n)))) < 2147483648)
  from-high = (made ∙ sym high_is, subst (λ (z : ℤ). mag z < 2147483648) (sym made) (omega arith))

-- the numbers that are none of a type are small
pub month-flag : (m : Option Month) → has_month m < 2
month-flag None = omega arith
month-flag (Some m) = omega arith

pub day-flag : (d : Option Day) → has_day d < 2
day-flag None = omega arith
day-flag (Some d) = omega arith

pub time-flag : (t : Option Time) → has_time t < 2
time-flag None = omega arith
time-flag (Some t) = omega arith

pub sort-in : (o : Option TimeOffset) → offset_sort o < 4
sort-in None = omega arith
sort-in (Some Utc) = omega arith
sort-in (Some (Offset true h m)) = omega arith
sort-in (Some (Offset false h m)) = omega arith

pub season-in : (s : Option Season) → season_number s < 25
season-in None = omega arith
season-in (Some Spring) = omega arith
season-in (Some Summer) = omega arith
season-in (Some Autumn) = omega arith
season-in (Some Winter) = omega arith

pub flag-in : (b : Bool) → flag b < 2
flag-in true = omega arith
flag-in false = omega arith

-- each part by its numbers
pub month-back : (m : Option Month) → month_of (has_month m) (month_number m) ≡ m
unfolding month_of pick
month-back None = refl
month-back (Some m) = refl

pub day-back : (d : Option Day) → day_of (has_day d) (day_number d) ≡ d
unfolding day_of pick
day-back None = refl
day-back (Some d) = refl

pub offset-back : (o : Option TimeOffset) → offset_of (offset_sort o) (hours_of (shift_of o)) (minutes_of (shift_of o)) ≡ o
unfolding offset_of pick
offset-back None = refl
offset-back (Some Utc) = refl
offset-back (Some (Offset true h m)) = refl
offset-back (Some (Offset false h m)) = refl

pub season-back : (s : Option Season) → season_of (season_number s) ≡ s
unfolding season_of pick
season-back None = refl
season-back (Some Spring) = refl
season-back (Some Summer) = refl
season-back (Some Autumn) = refl
season-back (Some Winter) = refl

pub flag-back : (b : Bool) → is_set (flag b) ≡ b
flag-back true = refl
flag-back false = refl

-- the parts of a word whose lower half is a year
module _ (y : ℤ) (a b c d : ℕ) (hy : mag y < 2147483648) (ha : a < 256) (hb : b < 256) (hc : c < 256) (hd : d < 256) where
  pub year-part : year_in (day_word_of y a b c d) ≡ twos y
  year-part = let h = twos_in y hy in omega arith

  pub has-month-part : has_month_in (day_word_of y a b c d) ≡ a
  has-month-part = let h = twos_in y hy in omega arith

  pub month-part : month_in (day_word_of y a b c d) ≡ b
  month-part = let h = twos_in y hy in omega arith

  pub has-day-part : has_day_in (day_word_of y a b c d) ≡ c
  has-day-part = let h = twos_in y hy in omega arith

  pub day-part : day_in (day_word_of y a b c d) ≡ d
  day-part = let h = twos_in y hy in omega arith

-- the parts of a word of eight bytes
module _ (a b c d e f g h : ℕ) (ha : a < 256) (hb : b < 256) (hc : c < 256) (hd : d < 256) (he : e < 256) (hf : f < 256) (hg : g < 256) (hh : h < 256) where
  first_byte : time_word_of a b c d e f g h % 256 ≡ a
  first_byte = omega arith

  second-byte : time_word_of a b c d e f g h / 256 % 256 ≡ b
  second-byte = omega arith

  third-byte : time_word_of a b c d e f g h / 65536 % 256 ≡ c
  third-byte = omega arith

  fourth-byte : time_word_of a b c d e f g h / 16777216 % 256 ≡ d
  fourth-byte = omega arith

  fifth-byte : time_word_of a b c d e f g h / 4294967296 % 256 ≡ e
  fifth-byte = omega arith

  sixth-byte : time_word_of a b c d e f g h / 1099511627776 % 256 ≡ f
  sixth-byte = omega arith

  seventh-byte : time_word_of a b c d e f g h / 281474976710656 % 256 ≡ g
  seventh-byte = omega arith

  eighth-byte : time_word_of a b c d e f g h / 72057594037927936 % 256 ≡ h
  eighth-byte = omega arith

  -- the time that they say
  time_in_lem : time_in (time_word_of a b c d e f g h) ≡ pick (eqb a 0) None (Some (time b c d (offset_of e f g)))
  unfolding time_in
  time_in_lem = rw (first_byte, second-byte, third-byte, fourth-byte, fifth-byte, sixth-byte, seventh-byte)

picked-time : (t : Option Time)
    → pick (eqb (has_time t) 0) None
    (Some
    (time (clock_of t).hour (clock_of t).minute (clock_of t).second
    (offset_of (offset_sort (clock_of t).offset) (hours_of (shift_of (clock_of t).offset)) (minutes_of (shift_of (clock_of t).offset)))))
    ≡ t
unfolding pick
picked-time None = refl
picked-time (Some t) = ap (λ (o : Option TimeOffset). Some (time t.hour t.minute t.second o)) (offset-back t.offset)

module _ (d : Datetime) (h : DatetimeTyped d) where
  month-said : month_of (has_month_in (day_word d)) (month_in (day_word d)) ≡ d.month
  month-said =
      let m = d.month in
      let n = d.day in
      let b = h.bytes_typed in
      let p = month-flag m in
      let q = day-flag n in
      let e = has-month-part d.year (has_month m) (month_number m) (has_day n) (day_number n) h.year_typed (omega arith) b.0 (omega arith) b.1.0 in
      let f = month-part d.year (has_month m) (month_number m) (has_day n) (day_number n) h.year_typed (omega arith) b.0 (omega arith) b.1.0 in
      rw (e, f) (month-back m)

  day-said : day_of (has_day_in (day_word d)) (day_in (day_word d)) ≡ d.day
  day-said =
      let m = d.month in
      let n = d.day in
      let b = h.bytes_typed in
      let p = month-flag m in
      let q = day-flag n in
      let e = has-day-part d.year (has_month m) (month_number m) (has_day n) (day_number n) h.year_typed (omega arith) b.0 (omega arith) b.1.0 in
      let f = day-part d.year (has_month m) (month_number m) (has_day n) (day_number n) h.year_typed (omega arith) b.0 (omega arith) b.1.0 in
      rw (e, f) (day-back n)

  year-said : from_twos (year_in (day_word d)) ≡ d.year
  year-said =
      let m = d.month in
      let n = d.day in
      let b = h.bytes_typed in
      let p = month-flag m in
      let q = day-flag n in
      let e = year-part d.year (has_month m) (month_number m) (has_day n) (day_number n) h.year_typed (omega arith) b.0 (omega arith) b.1.0 in
      ap from_twos e ∙ year-back d.year h.year_typed

  time-said : time_in (time_word d) ≡ d.time
  time-said =
      let t = clock_of d.time in
      let o = t.offset in
      let b = h.bytes_typed.1.1 in
      let p = time-flag d.time in
      let q = sort-in o in
      let s = season-in d.season in
      time_in_lem (has_time d.time) t.hour t.minute t.second (offset_sort o) (hours_of (shift_of o)) (minutes_of (shift_of o))
      (season_number d.season) (omega arith) b.0 b.1.0 b.1.1.0 (omega arith) b.1.1.1.0 b.1.1.1.1.0 (omega arith)
      ∙ picked-time d.time

  season-said : season_of (time_word d / 72057594037927936 % 256) ≡ d.season
  season-said =
      let t = clock_of d.time in
      let o = t.offset in
      let b = h.bytes_typed.1.1 in
      let p = time-flag d.time in
      let q = sort-in o in
      let s = season-in d.season in
      ap season_of
      (eighth-byte (has_time d.time) t.hour t.minute t.second (offset_sort o) (hours_of (shift_of o)) (minutes_of (shift_of o))
      (season_number d.season) (omega arith) b.0 b.1.0 b.1.1.0 (omega arith) b.1.1.1.0 b.1.1.1.1.0 (omega arith))
      ∙ season-back d.season

  pub datetime-said : datetime_in (day_word d) (time_word d) ≡ d
  unfolding datetime_in
  datetime-said =
      λ i. record { year = year-said i; month = month-said i; day = day-said i; time = time-said i; season = season-said i }

-- the bytes of the last word
module _ (s u p r : ℕ) (hs : s < 256) (hu : u < 256) (hp : p < 256) (hr : r < 256) where
  pub shape-part : last_word s u p r % 256 ≡ s
  shape-part = omega arith

  pub uncertain-part : last_word s u p r / 256 % 256 ≡ u
  uncertain-part = omega arith

  pub approximate-part : last_word s u p r / 65536 % 256 ≡ p
  approximate-part = omega arith

  pub refusal-part : last_word s u p r / 4294967296 % 256 ≡ r
  refusal-part = omega arith

module _ (u p : ℕ) (hu : u < 256) (hp : p < 256) where
  value-said : (v : DateValue) → EachEnd DatetimeTyped v → value_in (value_words v u p) ≡ v
  unfolding value_in pick
  value-said (At d) h = rw (shape-part 0 u p 0 (omega arith) hu hp (omega arith), datetime-said d h)
  value-said (After d) h = rw (shape-part 1 u p 0 (omega arith) hu hp (omega arith), datetime-said d h)
  value-said (Before d) h = rw (shape-part 2 u p 0 (omega arith) hu hp (omega arith), datetime-said d h)
  value-said (Between a b) h =
      rw (shape-part 3 u p 0 (omega arith) hu hp (omega arith), datetime-said a h.0, datetime-said b h.1)

  last_of : (v : DateValue) → (s : ℕ) × ((s < 256) × ((value_words v u p).last ≡ last_word s u p 0))
  last_of (At d) = (0, (omega arith, refl))
  last_of (After d) = (1, (omega arith, refl))
  last_of (Before d) = (2, (omega arith, refl))
  last_of (Between a b) = (3, (omega arith, refl))

date-said : (d : Date) → EachEnd DatetimeTyped d.value → date_in (words_of (Ok d)) ≡ d
unfolding date_in
date-said d h =
    let u = flag d.uncertain in
    let p = flag d.approximate in
    let hu : u < 256 = let f = flag-in d.uncertain in omega arith in
    let hp : p < 256 = let f = flag-in d.approximate in omega arith in
    let l = last_of u p hu hp d.value in
    let e = ap (λ (n : ℕ). is_set (n / 256 % 256)) l.1.1 ∙ ap is_set (uncertain-part l.0 u p 0 l.1.0 hu hp (omega arith)) ∙ flag-back d.uncertain in
    let f = ap (λ (n : ℕ). is_set (n / 65536 % 256)) l.1.1 ∙ ap is_set (approximate-part l.0 u p 0 l.1.0 hu hp (omega arith)) ∙ flag-back d.approximate in
    λ i. record { value = value-said u p hu hp d.value h i; uncertain = e i; approximate = f i }

-- the number of a refusal in the last word; 0 is none
accepted-last : (d : Date) → (words_of (Ok d)).last / 4294967296 % 256 ≡ 0
accepted-last d =
    let u = flag d.uncertain in
    let p = flag d.approximate in
    let hu : u < 256 = let f = flag-in d.uncertain in omega arith in
    let hp : p < 256 = let f = flag-in d.approximate in omega arith in
    let l = last_of u p hu hp d.value in
    ap (λ (n : ℕ). n / 4294967296 % 256) l.1.1 ∙ refusal-part l.0 u p 0 l.1.0 hu hp (omega arith)

refused-last : (e : Refusal) → (words_of (Err e)).last / 4294967296 % 256 ≡ number e.kind
refused-last e = refusal-part 0 0 0 (number e.kind) (omega arith) (omega arith) (omega arith) (number_in e.kind).1

-- what a reader answers is read back from its words
pub read_back : (x : Result Date Refusal) → Typed x → read_in (words_of x) ≡ x
unfolding read_in pick
read_back (Ok d) t = rw (accepted-last d) (ap Ok (date-said d t))
read_back (Err e) t =
    rw (refused-last e, ne_eqb (number e.kind) 0 (λ z. let p = (number_in e.kind).0 in omega arith), named e.kind)
