-- The text of words is short, and all of it is put into 24 bytes. Assumes nothing.
use mathlib.Core.Path.{◌≡◌, sym, ap, ◌∙◌}
use mathlib.Core.Bool.{Bool, true, false}
use mathlib.Core.List.{List, ◌++◌}
use Prim.Native.Nat.{ℕ, ◌+◌, ◌-◌, ◌/◌, ◌%◌, ◌≤◌}
use native.Mathlib.Omega.{arith}
use lib.Dec.{eqb, ltb}
use lib.ListN.{length, take, drop, length-append}
use lib.Seq.{take_at}
use borrow.Author.Tests.{le-leb}
use Rattle.chars.specs.Ascii.{ascii}
use Rattle.chars.specs.Pick.{pick}
use Rattle.chars.proofs.Cases.{by-test}
use Rattle.puts.specs.Marks.{mark_text}
use Rattle.puts.specs.Numbers.{digits}
use Rattle.puts.proofs.Counts.{length_digits}
use Rattle.codes.specs.Back.{is_set, has_month_in, month_in, has_day_in, day_in, year_in, year_digits, part_digits, day_digits, month_digits, point_text, shaped_text, words_text, is_plain, has_room, words_put}

abbrev Short : ℕ → List ℕ → Type 0
Short n t = length t ≤ n

part-short : (n : ℕ) → length (part_digits n) ≡ 3
unfolding part_digits
part-short n = length-append (ascii "-") (digits 2 (n + 1)) ∙ let e = length_digits 2 (n + 1) in omega arith

day-short : (w : ℕ) → Short 3 (day_digits w)
unfolding day_digits
day-short w = by-test (Short 3) (is_set (has_day_in w)) (λ _. omega (arith, part-short (day_in w))) (λ _. omega arith)

month-short : (w : ℕ) → Short 6 (month_digits w)
unfolding month_digits
month-short w =
    by-test (Short 6) (is_set (has_month_in w))
    (λ _. omega (arith, length-append (part_digits (month_in w)) (day_digits w), part-short (month_in w), day-short w))
    (λ _. omega arith)

year-short : (n : ℕ) → Short 5 (year_digits n)
unfolding year_digits
year-short n =
    by-test (Short 5) (ltb n 10000) (λ _. omega (arith, length_digits 4 n))
    (λ _. omega (arith, length-append (ascii "-") (digits 4 (4294967296 - n)), length_digits 4 (4294967296 - n)))

point-short : (w : ℕ) → Short 11 (point_text w)
unfolding point_text
point-short w = omega (arith, length-append (year_digits (year_in w)) (month_digits w), year-short (year_in w), month-short w)

shaped-short : (s a b : ℕ) → Short 23 (shaped_text s a b)
unfolding shaped_text
shaped-short s a b =
    by-test (Short 23) (eqb s 0) (λ _. omega (arith, point-short a))
    (λ _.
    by-test (Short 23) (eqb s 1) (λ _. omega (arith, length-append (point_text a) (ascii "/.."), point-short a))
    (λ _.
    by-test (Short 23) (eqb s 2) (λ _. omega (arith, length-append (ascii "../") (point_text a), point-short a))
    (λ _.
    omega (arith, length-append (point_text a ++ ascii "/") (point_text b), length-append (point_text a) (ascii "/"), point-short a, point-short b))))

mark-short : (u a : Bool) → Short 1 (mark_text u a)
unfolding mark_text
mark-short true true = omega arith
mark-short true false = omega arith
mark-short false true = omega arith
mark-short false false = omega arith

module _ (a b last : ℕ) where
  abbrev text : List ℕ
  text = words_text a b last

  pub text-short : length text ≤ 24
  unfolding words_text
  text-short =
      let u = is_set (last / 256 % 256) in
      let p = is_set (last / 65536 % 256) in
      omega (arith, length-append (shaped_text (last % 256) a b) (mark_text u p), shaped-short (last % 256) a b, mark-short u p)

  -- put into a buffer of 24 bytes
  module _ (e : is_plain a b last ≡ true) (l : List ℕ) (size : length l ≡ 24) where
    has_room_lem : has_room a b last (length l) ≡ true
    unfolding has_room
    has_room_lem = rw (e, le-leb (length text) (length l) (omega (arith, text-short)))

    put_whole : words_put a b last l ≡ text ++ drop (length text) l
    unfolding words_put pick
    put_whole = rw has_room_lem

    pub count-put : {n : ℕ} → n ≡ pick (has_room a b last (length l)) (length text) 0 → n ≡ length text
    unfolding pick
    count-put f = f ∙ rw has_room_lem

    module _ {n : ℕ} {m : List ℕ} (f : n ≡ pick (has_room a b last (length l)) (length text) 0) (g : m ≡ words_put a b last l) where
      pub text_in : n ≤ length m
      text_in = omega (arith, count-put f, ap length (g ∙ put_whole), length-append text (drop (length text) l))

      pub text-put : take n m ≡ text
      text-put = rw (g ∙ put_whole) (take_at text (drop (length text) l) n (sym (count-put f)))
