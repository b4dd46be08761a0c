-- The line of words: what is put of each, and that it is the line of what they say. Assumes nothing.
use mathlib.Core.Path.{◌≡◌, refl, sym, ap, ◌∙◌}
use mathlib.Core.Bool.{Bool, true, false}
use mathlib.Core.List.{List, [], ◌∷◌, ◌++◌}
use Prim.Native.Nat.{ℕ, ◌+◌, ◌*◌, ◌/◌, ◌%◌, ◌<◌}
use native.Mathlib.Nat.{zero-add, add-mul-div_left, add-mul-mod_self_left, div-eq_of_lt, mod-eq_of_lt}
use native.Mathlib.Omega.{arith}
use lib.IntN.{ℤ, pos, negsuc}
use lib.ListN.{length, length-append}
use lib.Signed.{mag}
use borrow.Author.Tests.{eq-eqb, ne_eqb}
use Rattle.chars.specs.Pick.{pick}
use Rattle.dates.specs.declared.Day.{Day}
use Rattle.dates.specs.declared.Month.{Month}
use Rattle.dates.specs.declared.Time.{Time}
use Rattle.dates.specs.declared.TimeOffset.{TimeOffset}
use Rattle.std.specs.Prelude.{Option, Some, None, Ok, Err}
use Rattle.dates.specs.declared.TimeOffset.TheVariants.{Utc, Offset}
use Rattle.dates.specs.declared.Datetime.{Datetime}
use Rattle.dates.specs.declared.DateValue.{DateValue}
use Rattle.dates.specs.declared.DateValue.TheVariants.{At, After, Before, Between}
use Rattle.dates.specs.declared.Date.{Date}
use Rattle.dates.specs.Ends.{EachEnd}
use Rattle.dates.specs.Value.{season_number}
use Rattle.refusals.specs.declared.Refusal.{Refusal}
use Rattle.refusals.specs.Refusal.{number}
use Rattle.codes.specs.declared.Words.{Words}
use Rattle.codes.specs.Words.{twos, flag, has_month, month_number, has_day, day_number, has_time, clock_of, offset_sort, shift_of, hours_of, minutes_of, four_bytes, time_word_of, last_word, day_word, time_word, value_words, words_of}
use Rattle.codes.specs.Typed.{DatetimeTyped, Typed}
use Rattle.refusals.proofs.Told.{number_in}
use Rattle.answers.specs.Answer.{word_bytes, month_byte, day_byte, shift_bytes, offset_bytes, time_bytes, datetime_bytes, end_bytes, shape, ends_bytes, bit, marks, bytes_with, accepted_bytes, refused_bytes, line_of, accepted_line, refused_line}
use Rattle.answers.specs.Coded.{part_byte, part_bytes, clock_bytes, coded_end, coded_shape, coded_marks, one_coded, two_coded, words_line, refused_words}
use Rattle.answers.proofs.Digits.{length-line}

-- ---- what is put

-- a part that is absent, and one that is there
pub no_part : (n : ℕ) {has : ℕ} → has ≡ 0 → 255 ≡ part_byte has n
unfolding part_byte pick
no_part n {has} e = rw (eq-eqb has 0 e) refl

pub some-part : {has n : ℕ} → (has ≡ 0 → ⊥) → n ≡ part_byte has n
unfolding part_byte pick
some-part {has} h = rw (ne_eqb has 0 h) refl

pub parts_are : (w : ℕ) {m d : ℕ} → m ≡ part_byte (w / 4294967296 % 256) (w / 1099511627776 % 256) → d ≡ part_byte (w / 281474976710656 % 256) (w / 72057594037927936 % 256)
    → part_bytes w ≡ (m ∷ []) ++ (d ∷ [])
parts_are w e f = rw (e, f) refl

-- no time
pub no_clock : {t : ℕ} → t ≡ 0 → clock_bytes t ≡ (0 ∷ 0 ∷ 0 ∷ 0 ∷ []) ++ (0 ∷ 0 ∷ 0 ∷ [])
no_clock e = rw e refl

-- the lengths
pub length-coded : (w t : ℕ) → length (coded_end w t) ≡ 13
unfolding coded_end
length-coded w t = refl

module _ (w : Words) (text : List ℕ) where
  abbrev first : List ℕ
  first = coded_end w.first w.first_time

  abbrev second : List ℕ
  second = coded_end w.second w.second_time

  pub length-one-coded : length (one_coded w text) ≡ 2 * (16 + length text) + 1
  length-one-coded =
      length-line (bytes_with (coded_shape w.last) (coded_marks w.last) first text)
      ∙ let e = length-append first text in
      let f = length-coded w.first w.first_time in
      omega arith

  pub length-two-coded : length (two_coded w text) ≡ 2 * (29 + length text) + 1
  length-two-coded =
      length-line (bytes_with (coded_shape w.last) (coded_marks w.last) (first ++ second) text)
      ∙ let e = length-append (first ++ second) text in
      let f = length-append first second in
      let g = length-coded w.first w.first_time in
      let h = length-coded w.second w.second_time in
      omega arith

  -- the line by the shape
  pub one_line : (w.last % 4 ≡ 3 → ⊥) → one_coded w text ≡ words_line w text
  unfolding words_line pick
  one_line h = rw (ne_eqb (w.last % 4) 3 h)

  pub two-line : w.last % 4 ≡ 3 → two_coded w text ≡ words_line w text
  unfolding words_line pick
  two-line h = rw (eq-eqb (w.last % 4) 3 h)

-- ---- the bytes of a word

-- a byte, by what stands below it and above it
byte_of : (u w low b high : ℕ) → w ≡ low + u * (b + 256 * high) → low < u → b < 256 → w / u % 256 ≡ b
byte_of u w low b high e l h =
    rw (e, add-mul-div_left low (b + 256 * high) {y = u} (omega arith), div-eq_of_lt l, zero-add, add-mul-mod_self_left b 256 high, mod-eq_of_lt h)

lowest-of : (w b high : ℕ) → w ≡ b + 256 * high → b < 256 → w % 256 ≡ b
lowest-of w b high e h = rw (e, add-mul-mod_self_left b 256 high, mod-eq_of_lt h)

-- what stands four bytes above is left out
byte-below : (u w low high : ℕ) → 0 < u → w ≡ low + u * (256 * high) → w / u % 256 ≡ low / u % 256
byte-below u w low high h e = rw (e, add-mul-div_left low (256 * high) {y = u} h, add-mul-mod_self_left (low / u) 256 high)

lowest-below : (w low high : ℕ) → w ≡ low + 256 * high → w % 256 ≡ low % 256
lowest-below w low high e = rw (e, add-mul-mod_self_left low 256 high)

cons-is : {a b : ℕ} {s t : List ℕ} → a ≡ b → s ≡ t → a ∷ s ≡ b ∷ t
cons-is e f = rw (e, f) refl

word_below : (y high : ℕ) → word_bytes (y + 4294967296 * high) ≡ word_bytes y
word_below y high =
    let w = y + 4294967296 * high in
    cons-is (byte-below 16777216 w y high (omega arith) (omega arith))
    (cons-is (byte-below 65536 w y (256 * high) (omega arith) (omega arith))
    (cons-is (byte-below 256 w y (65536 * high) (omega arith) (omega arith))
    (cons-is (lowest-below w y (16777216 * high) (omega arith)) refl)))

module _ (a b c d e f g s : ℕ) (ha : a < 256) (hb : b < 256) (hc : c < 256) (hd : d < 256) (he : e < 256) (hf : f < 256) (hg : g < 256) where
  clock-is : clock_bytes (time_word_of a b c d e f g s) ≡ a ∷ b ∷ c ∷ d ∷ e ∷ f ∷ g ∷ []
  clock-is =
      let t = time_word_of a b c d e f g s in
      let r = e + 256 * f + 65536 * g + 16777216 * s in
      cons-is (lowest-of t a (b + 256 * c + 65536 * d + 16777216 * r) (omega arith) ha)
      (cons-is (byte_of 256 t a b (c + 256 * d + 65536 * r) (omega arith) (omega arith) hb)
      (cons-is (byte_of 65536 t (a + 256 * b) c (d + 256 * r) (omega arith) (omega arith) hc)
      (cons-is (byte_of 16777216 t (a + 256 * b + 65536 * c) d r (omega arith) (omega arith) hd)
      (cons-is (byte_of 4294967296 t (four_bytes a b c d) e (f + 256 * g + 65536 * s) (omega arith) (omega arith) he)
      (cons-is (byte_of 1099511627776 t (four_bytes a b c d + 4294967296 * e) f (g + 256 * s) (omega arith) (omega arith) hf)
      (cons-is (byte_of 281474976710656 t (four_bytes a b c d + 4294967296 * (e + 256 * f)) g s (omega arith) (omega arith) hg) refl))))))

module _ (y hm m hd d : ℕ) (below : y < 4294967296) (hhm : hm < 256) (hm' : m < 256) (hhd : hd < 256) (hd' : d < 256) where
  parts_in : part_bytes (y + 4294967296 * four_bytes hm m hd d) ≡ part_byte hm m ∷ part_byte hd d ∷ []
  parts_in =
      let w = y + 4294967296 * four_bytes hm m hd d in
      let p = byte_of 4294967296 w y hm (m + 256 * hd + 65536 * d) (omega arith) below hhm in
      let q = byte_of 1099511627776 w (y + 4294967296 * hm) m (hd + 256 * d) (omega arith) (omega arith) hm' in
      let r = byte_of 281474976710656 w (y + 4294967296 * hm + 1099511627776 * m) hd d (omega arith) (omega arith) hhd in
      let s = byte_of 72057594037927936 w (y + 4294967296 * hm + 1099511627776 * m + 281474976710656 * hd) d 0 (omega arith) (omega arith) hd' in
      cons-is (part-as p q) (cons-is (part-as r s) refl)
    where
      part-as : {a b c e : ℕ} → a ≡ b → c ≡ e → part_byte a c ≡ part_byte b e
      part-as p q = rw (p, q)

-- ---- the bytes of a Datetime

twos-below : (y : ℤ) → mag y < 2147483648 → twos y < 4294967296
unfolding twos
twos-below (pos n) h = omega arith
twos-below (negsuc n) h = omega arith

month_there : (m : Option Month) → has_month m < 256
month_there None = omega arith
month_there (Some m) = omega arith

day_there : (d : Option Day) → has_day d < 256
day_there None = omega arith
day_there (Some d) = omega arith

time-there : (t : Option Time) → has_time t < 256
time-there None = omega arith
time-there (Some t) = omega arith

sort-small : (o : Option TimeOffset) → offset_sort o < 256
sort-small None = omega arith
sort-small (Some Utc) = omega arith
sort-small (Some (Offset true h m)) = omega arith
sort-small (Some (Offset false h m)) = omega arith

month_is : (m : Option Month) → part_byte (has_month m) (month_number m) ≡ month_byte m
unfolding part_byte month_byte pick
month_is None = refl
month_is (Some m) = refl

day_is : (d : Option Day) → part_byte (has_day d) (day_number d) ≡ day_byte d
unfolding part_byte day_byte pick
day_is None = refl
day_is (Some d) = refl

offset_is : (o : Option TimeOffset) → offset_sort o ∷ hours_of (shift_of o) ∷ minutes_of (shift_of o) ∷ [] ≡ offset_bytes o
unfolding offset_bytes shift_bytes
offset_is None = refl
offset_is (Some Utc) = refl
offset_is (Some (Offset true h m)) = refl
offset_is (Some (Offset false h m)) = refl

time_is : (t : Option Time)
    → has_time t ∷ (clock_of t).hour ∷ (clock_of t).minute ∷ (clock_of t).second
    ∷ (offset_sort (clock_of t).offset ∷ hours_of (shift_of (clock_of t).offset) ∷ minutes_of (shift_of (clock_of t).offset) ∷ [])
    ≡ time_bytes t
unfolding time_bytes
time_is None = refl
time_is (Some t) = ap (λ (l : List ℕ). 1 ∷ t.hour ∷ t.minute ∷ t.second ∷ l) (offset_is t.offset)

joined_is : {a b s t : List ℕ} → a ≡ b → s ≡ t → a ++ s ≡ b ++ t
joined_is e f = rw (e, f)

end_is : (d : Datetime) → DatetimeTyped d → coded_end (day_word d) (time_word d) ≡ datetime_bytes d
unfolding coded_end datetime_bytes
end_is d h =
    let y = twos d.year in
    let o = (clock_of d.time).offset in
    let n = h.bytes_typed in
    joined_is (word_below y (four_bytes (has_month d.month) (month_number d.month) (has_day d.day) (day_number d.day)))
    (joined_is
    (parts_in y (has_month d.month) (month_number d.month) (has_day d.day) (day_number d.day) (twos-below d.year h.year_typed)
    (month_there d.month) n.0 (day_there d.day) n.1.0
    ∙ cons-is (month_is d.month) (cons-is (day_is d.day) refl))
    (clock-is (has_time d.time) (clock_of d.time).hour (clock_of d.time).minute (clock_of d.time).second (offset_sort o) (hours_of (shift_of o))
    (minutes_of (shift_of o)) (season_number d.season) (time-there d.time) n.1.1.0 n.1.1.1.0 n.1.1.1.1.0 (sort-small o)
    n.1.1.1.1.1.0 n.1.1.1.1.1.1.0
    ∙ time_is d.time))

-- ---- the line

shape_is : (n : ℕ) (u a : Bool) → n < 4 → coded_shape (last_word n (flag u) (flag a) 0) ≡ n
shape_is n true true h = omega arith
shape_is n true false h = omega arith
shape_is n false true h = omega arith
shape_is n false false h = omega arith

two-bits : (w x y : ℕ) → w / 256 ≡ x → w / 65536 ≡ y → coded_marks w ≡ x % 2 + 2 * (y % 2)
two-bits w x y e f = rw (e, f)

marks-are : (n : ℕ) (u a : Bool) → n < 4 → coded_marks (last_word n (flag u) (flag a) 0) ≡ marks u a
unfolding marks bit
marks-are n true true h = two-bits (last_word n (flag true) (flag true) 0) 257 1 (omega arith) (omega arith)
marks-are n true false h = two-bits (last_word n (flag true) (flag false) 0) 1 0 (omega arith) (omega arith)
marks-are n false true h = two-bits (last_word n (flag false) (flag true) 0) 256 1 (omega arith) (omega arith)
marks-are n false false h = two-bits (last_word n (flag false) (flag false) 0) 0 0 (omega arith) (omega arith)

module _ (text : List ℕ) where
  line_as : {n k m j : ℕ} {s t : List ℕ} → n ≡ k → m ≡ j → s ≡ t → line_of (bytes_with n m s text) ≡ line_of (bytes_with k j t text)
  line_as e f g = rw (e, f, g)

  one-is : (n : ℕ) (u a : Bool) (d : Datetime) → n < 3 → DatetimeTyped d → (w : Words) → w.first ≡ day_word d → w.first_time ≡ time_word d → w.last ≡ last_word n (flag u) (flag a) 0
      → words_line w text ≡ line_of (bytes_with n (marks u a) (datetime_bytes d) text)
  one-is n u a d h t w e f g =
      let s : w.last % 4 ≡ n = ap coded_shape g ∙ shape_is n u a (omega arith) in
      let z : coded_end w.first w.first_time ≡ datetime_bytes d = rw (e, f) (end_is d t) in
      sym (one_line w text (λ q. omega arith)) ∙ line_as s (ap coded_marks g ∙ marks-are n u a (omega arith)) z

  value_line : (v : DateValue) (u a : Bool) → EachEnd DatetimeTyped v → words_line (value_words v (flag u) (flag a)) text ≡ line_of (bytes_with (shape v) (marks u a) (ends_bytes false v) text)
  unfolding shape ends_bytes end_bytes
  value_line (At d) u a t = one-is 0 u a d (omega arith) t (value_words (At d) (flag u) (flag a)) refl refl refl
  value_line (After d) u a t = one-is 1 u a d (omega arith) t (value_words (After d) (flag u) (flag a)) refl refl refl
  value_line (Before d) u a t = one-is 2 u a d (omega arith) t (value_words (Before d) (flag u) (flag a)) refl refl refl
  value_line (Between c d) u a t =
      let s = shape_is 3 u a (omega arith) in
      sym (two-line (value_words (Between c d) (flag u) (flag a)) text s)
      ∙ line_as s (marks-are 3 u a (omega arith)) (joined_is (end_is c t.0) (end_is d t.1))

-- what the words of a Date say is answered by its line
pub accepted-coded : {w : Words} (d : Date) (text : List ℕ) → w ≡ words_of (Ok d) → Typed (Ok d) → words_line w text ≡ accepted_line false d text
unfolding accepted_bytes
accepted-coded d text e t = rw e (value_line text d.value d.uncertain d.approximate t)

-- and what those of a refusal say, by its
pub refused-coded : {w : Words} (e : Refusal) → w ≡ words_of (Err e) → refused_words w ≡ refused_line e
unfolding refused_bytes
refused-coded e f =
    let n = number e.kind in
    rw (f, byte_of 4294967296 (last_word 0 0 0 n) 0 n 0 (omega arith) (omega arith) (number_in e.kind).1) refl
