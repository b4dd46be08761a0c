-- The text of a Date by the writer of level one derives that Date, so that it is read back. Assumes nothing.
use mathlib.Core.Path.{◌≡◌, refl, sym, ap, ◌∙◌, subst}
use Prim.Native.Nat.{ℕ, zero, suc, ◌+◌, ◌/◌, ◌%◌, ◌^◌, ◌≤◌, ◌<◌}
use native.Mathlib.Nat.{pow-succ'}
use native.Mathlib.Omega.{arith}
use native.Mathlib.Decide.{dec_lt}
use mathlib.Core.Bool.{true, false, false≢true}
use mathlib.Core.List.{List, [], ◌∷◌, ◌++◌, append_assoc, append-nil}
use borrow.Author.Tests.{lt-ltb, le-ltb, le-leb}
use lib.Dec.{lit≤}
use lib.IntN.{ℤ, pos, negsuc, nat_abs}
use lib.ListN.{length, length-append}
use Rattle.chars.specs.Pick.{pick}
use Rattle.chars.specs.Ascii.{ascii}
use Rattle.chunks.specs.Chunks.{one_chunk}
use Rattle.chunks.proofs.Plains.{Plainly, plainly}
use Rattle.dates.specs.declared.Season.{Season}
use Rattle.dates.specs.declared.Season.TheVariants.{Autumn, Spring, Summer, Winter}
use Rattle.std.specs.Prelude.{Option, Some, None, Ok}
use Rattle.dates.specs.declared.Datetime.{Datetime}
use Rattle.dates.specs.declared.DateValue.{DateValue}
use Rattle.dates.specs.declared.DateValue.TheVariants.{At, After, Before, Between}
use Rattle.dates.specs.declared.Date.{Date}
use Rattle.dates.specs.Value.{season_of, season_number, is_season}
use Rattle.strict.specs.Digits.{digits}
use Rattle.strict.specs.Grammar.{Year, dddd, -dddd, Field, field, Value, alone, between, after, before, unknown, Mark, text}
use Rattle.strict.specs.Grammar
use Rattle.strict.specs.Level.{season_at, LongYear, Yd, Y_d, LevelPoint, strictly, season, long, LevelText}
use Rattle.strict.proofs.Level.{level-exact}
use Rattle.strict.proofs.Runs.{digits_long}
use Rattle.reading_laws.specs.Field.{leveled, parsed_level_one}
use Rattle.reading_laws.proofs.Entries.{level-clean}
use Rattle.puts.specs.Answers.{answer, measured, decided}
use Rattle.puts.specs.Numbers as numbers
use Rattle.puts.specs.Numbers.{digit_count, width, decimal}
use Rattle.writer.specs.Texts.{minus, year_text, month_parts, parts_of, parts_text, part_text, hyphen_part, datetime_text, too_large, end_panics}
use Rattle.puts.specs.Marks.{mark_text}
use Rattle.writer.specs.Level.{long_sign, behind_text, level_end, level_value, level_text, level_end_panics, level_value_panics, level_panics}
use Rattle.puts.proofs.Counts.{one_more, no-digits, few, padded, unpadded}
use Rattle.dates.specs.Ends.{EachEnd}
use Rattle.dates.proofs.Ends.{no_end}
use Rattle.roundtrip_laws.specs.Domain.{Untimed}
use Rattle.roundtrip_laws.specs.Level.{LevelIn, of_calendar, of_season, of_long_year, InLevel, Given, on_calendar, in_season, long_year}
use Rattle.roundtrip_laws.proofs.Bytes.{InPoint, PointText, ValueText, Clear, Each, each_append, point-digit, minus-in, alone-text, between-text, after_text, before_text, clear-text, clear-ascii}
use Rattle.roundtrip_laws.proofs.Bytes.Each.{none, more}
use Rattle.roundtrip_laws.proofs.Trims.{mark-short, text-clear}
use Rattle.roundtrip_laws.proofs.Points.{point-text}
use Rattle.roundtrip_laws.proofs.Agrees.{unknown-text}
use Rattle.roundtrip_laws.proofs.Derived.{end-derived, mark-derived}
use Rattle.roundtrip_laws.proofs.Stored.{calendar-written}
use Rattle.roundtrip_laws.proofs.LevelRead.{level-given}

-- ---- the digits of a year

-- the two grammars' digits are the same
same_digits : (w n : ℕ) → numbers.digits w n ≡ digits w n
same_digits zero n = refl
same_digits (suc w) n = ap (λ (l : List ℕ). l ++ ((48 + n % 10) ∷ [])) (same_digits w (n / 10))

count_is : (w n : ℕ) → 10 ^ w ≤ n → n < 10 ^ suc w → digit_count n ≡ suc w
count_is zero n h k = one_more n (omega arith) ∙ ap (λ (m : ℕ). suc (digit_count m)) {x = n / 10} {y = 0} (omega arith) ∙ ap suc no-digits
count_is (suc w) n h k =
    let p = pow-succ' 10 w in
    let q = pow-succ' 10 (suc w) in
    one_more n (omega arith) ∙ ap suc (count_is w (n / 10) (omega (arith, h)) (omega (arith, k)))

long-decimal : (w n : ℕ) → 4 ≤ w → 10 ^ w ≤ n → n < 10 ^ suc w → decimal 4 n ≡ digits (suc w) n
unfolding decimal
long-decimal w n l h k =
    let c = count_is w n h k in
    ap (λ (m : ℕ). numbers.digits m n) (unpadded 4 n (omega arith) ∙ c) ∙ same_digits (suc w) n

-- a long year by how many digits it has
record Long (n : ℕ) : Type 0 where
  w : ℕ
  least : 4 ≤ w
  most : w ≤ 8
  from : 10 ^ w ≤ n
  below : n < 10 ^ suc w

long_of : (n : ℕ) → 10000 ≤ n → n < 1000000000 → Long n
long_of n h k =
    elim (dec_lt n 100000) [
      | yes l ↦ record { w = 4; least = lit≤ tt; most = lit≤ tt; from = h; below = l }
      | no a ↦ elim (dec_lt n 1000000) [
        | yes l ↦ record { w = 5; least = lit≤ tt; most = lit≤ tt; from = omega (arith, a); below = l }
        | no b ↦ elim (dec_lt n 10000000) [
          | yes l ↦ record { w = 6; least = lit≤ tt; most = lit≤ tt; from = omega (arith, b); below = l }
          | no c ↦ elim (dec_lt n 100000000) [
            | yes l ↦ record { w = 7; least = lit≤ tt; most = lit≤ tt; from = omega (arith, c); below = l }
            | no d ↦ record { w = 8; least = lit≤ tt; most = lit≤ tt; from = omega (arith, d); below = k }
          ]
        ]
      ]
    ]

long-derived : (y : ℤ) → 10000 ≤ nat_abs y → nat_abs y < 1000000000 → LongYear (89 ∷ year_text y) y
unfolding year_text minus
long-derived (pos n) h k =
    let l = long_of n h k in
    subst (λ (s : List ℕ). LongYear (89 ∷ s) (pos n)) (sym (long-decimal l.w n l.least l.from l.below)) (Yd l.w n l.least l.most l.from l.below)
long-derived (negsuc n) h k =
    let l = long_of (suc n) h k in
    subst (λ (s : List ℕ). LongYear (89 ∷ 45 ∷ s) (negsuc n)) (sym (long-decimal l.w (suc n) l.least l.from l.below)) (Y_d l.w (suc n) l.least l.most l.from l.below)

-- a year of four digits
width_four : (n : ℕ) → n < 10000 → width 4 n ≡ 4
width_four n h =
    elim (dec_lt (digit_count n) 4) [
      | yes l ↦ padded 4 n l
      | no l ↦ let f = few 4 n h in unpadded 4 n (omega (arith, l)) ∙ omega (arith, l)
    ]

short-decimal : (n : ℕ) → n < 10000 → decimal 4 n ≡ digits 4 n
unfolding decimal
short-decimal n h = ap (λ (w : ℕ). numbers.digits w n) (width_four n h) ∙ same_digits 4 n

year-derived : (y : ℤ) → nat_abs y < 10000 → Year (year_text y) y
unfolding year_text minus
year-derived (pos n) h = subst (λ (s : List ℕ). Year s (pos n)) (sym (short-decimal n h)) (dddd n h)
year-derived (negsuc n) h = subst (λ (s : List ℕ). Year (45 ∷ s) (negsuc n)) (sym (short-decimal (suc n) h)) (-dddd (suc n) h)

-- ---- a text derives its Date

season-derived : (y : ℤ) (s : Option Season) → nat_abs y < 10000 → is_season s ≡ true → LevelPoint (year_text y ++ hyphen_part (season_number s)) (season_of y s)
unfolding hyphen_part part_text decimal width digit_count numbers.count pick season_at
season-derived y None h e = absurd (false≢true e)
season-derived y (Some Spring) h e = season (year-derived y h) (field 0 (lit≤ tt))
season-derived y (Some Summer) h e = season (year-derived y h) (field 1 (lit≤ tt))
season-derived y (Some Autumn) h e = season (year-derived y h) (field 2 (lit≤ tt))
season-derived y (Some Winter) h e = season (year-derived y h) (field 3 (lit≤ tt))

level-derived : (d : Datetime) → LevelIn d → LevelPoint (level_end d) d
unfolding level_end long_sign behind_text datetime_text parts_of month_parts parts_text pick
level-derived d (of_calendar w) = rw (lt-ltb (nat_abs d.year) 10000 w.year_in, ap is_season w.unseasoned) (strictly (end-derived d w))
level-derived d (of_season {y} {s} h e) = rw (lt-ltb (nat_abs y) 10000 h, e) (season-derived y s h e)
level-derived d (of_long_year {y} h k) = rw (le-ltb (nat_abs y) 10000 h, append-nil (89 ∷ year_text y)) (long (long-derived y h k))

value-derived : (v : DateValue) → InLevel v → Value LevelPoint (level_value v) v
unfolding level_value
value-derived (At a) w = alone (level-derived a w)
value-derived (After a) w = after (level-derived a w)
value-derived (Before a) w = before (level-derived a w)
value-derived (Between a b) w =
    subst (λ (s : List ℕ). Value LevelPoint s (Between a b)) (sym (append_assoc (level_end a) (47 ∷ []) (level_end b)))
    (between (level-derived a w.0) (level-derived b w.1))

text-derived : (d : Date) → InLevel d.value → LevelText (level_text d) d
unfolding level_text
text-derived d w = text (value-derived d.value w) (mark-derived d.uncertain d.approximate)

-- ---- its bytes

digits_in : (w n : ℕ) → Each InPoint (digits w n)
digits_in zero n = none
digits_in (suc w) n = each_append (digits_in w (n / 10)) (more (point-digit (n % 10) (omega arith)) none)

y-in : InPoint 0x59
y-in = record { in_value = record { low = lit≤ tt; high = lit≤ tt; unmarked = refl }; no_slash = refl; no_x = refl }

field_in : {low high n : ℕ} {t : List ℕ} → Field 45 low high t n → Each InPoint t
field_in {low} (field n h) = more minus-in (digits_in 2 (low + n))

field-three : {low high n : ℕ} {t : List ℕ} → Field 45 low high t n → length t ≡ 3
field-three (field n h) = refl

year-bytes : {s : List ℕ} {y : ℤ} → Year s y → Each InPoint s × (4 ≤ length s) × (length s ≤ 5)
year-bytes (dddd n h) = (digits_in 4 n, lit≤ tt, lit≤ tt)
year-bytes (-dddd n h) = (more minus-in (digits_in 4 n), lit≤ tt, lit≤ tt)

long-bytes : {s : List ℕ} {y : ℤ} → LongYear s y → PointText s
long-bytes (Yd w n lo hi h k) =
    let l = digits_long (suc w) n in
    record { in_point = more y-in (digits_in (suc w) n); long = omega arith; short = omega arith }
long-bytes (Y_d w n lo hi h k) =
    let l = digits_long (suc w) n in
    record { in_point = more y-in (more minus-in (digits_in (suc w) n)); long = omega arith; short = omega arith }

level-point-text : {s : List ℕ} {a : Datetime} → LevelPoint s a → PointText s
level-point-text (strictly p) = point-text p
level-point-text (season {s = s} {t = t} y f) =
    let b = year-bytes y in
    let l = length-append s t in
    let k = field-three f in
    record { in_point = each_append b.0 (field_in f); long = omega (arith, b.1); short = omega (arith, b.2) }
level-point-text (long y) = long-bytes y

level-value-text : {s : List ℕ} {v : DateValue} → Value LevelPoint s v → ValueText s
level-value-text (alone p) = alone-text (level-point-text p)
level-value-text (between p q) = between-text (level-point-text p) (level-point-text q)
level-value-text (after p) = after_text (level-point-text p)
level-value-text (before p) = before_text (level-point-text p)
level-value-text (unknown x) = unknown-text x

-- ---- read back

module _ (d : Date) (w : InLevel d.value) where
  value-known : ValueText (level_value d.value)
  value-known = level-value-text (value-derived d.value w)

  mark : Mark (mark_text d.uncertain d.approximate) d.uncertain d.approximate
  mark = mark-derived d.uncertain d.approximate

  clear : Clear (level_text d)
  unfolding level_text
  clear = text-clear value-known mark

  text-small : length (level_text d) ≤ 4096
  unfolding level_text
  text-small = omega (arith, value-known.short, mark-short mark, length-append (level_value d.value) (mark_text d.uncertain d.approximate))

  plain-list : (start end : ℕ) → Plainly (level_text d) (one_chunk (level_text d) start end)
  plain-list start end =
      let b = level_text d in
      plainly b (one_chunk b start end) (record { four = refl; normal_kind = refl; whole = refl; small = text-small; ascii = clear-ascii clear })

  -- the written text, as one Normal chunk anywhere in a file, gives the same Date
  pub level-back : (start end : ℕ) → parsed_level_one (level_text d) (one_chunk (level_text d) start end) ≡ Ok d
  unfolding leveled
  level-back start end =
      let b = level_text d in
      let t = one_chunk b start end in
      sym (level-clean b t (plain-list start end).clean (sym ((plain-list start end).text false ∙ clear-text false false clear)))
      ∙ ap leveled ((level-exact b d).1 (text-derived d w))

-- ---- such a Date has a text

end-written : (d : Datetime) → LevelIn d → level_end_panics d ≡ false
unfolding level_end_panics end_panics parts_of month_parts too_large pick
end-written d (of_calendar w) = rw (ap is_season w.unseasoned) (calendar-written d.year d.month d.day w.parts_in)
end-written d (of_season h e) = rw e
end-written d (of_long_year h k) = refl

value_written : (v : DateValue) → InLevel v → level_value_panics v ≡ false
unfolding level_value_panics
value_written v w = no_end end-written v w

date-written : (d : Date) → InLevel d.value → level_panics d ≡ false
unfolding level_panics
date-written d w = value_written d.value w

-- so the writer refuses it for want of room alone
pub level-accepted : (d : Date) → InLevel d.value → (room : ℕ) → length (level_text d) ≤ room → answer (level_panics d) (level_text d) room ≡ Ok (length (level_text d))
unfolding answer measured decided pick
level-accepted d w room h = rw (date-written d w, le-leb (length (level_text d)) room h)

-- ---- what is read is of the domain

given-in : {a : Datetime} → Given a → a.time ≡ None → LevelIn a
given-in (on_calendar w) t = of_calendar (record { year_in = w.year_in; parts_in = w.parts_in; untimed = t; unseasoned = w.unseasoned })
given-in (in_season h e) t = of_season h e
given-in (long_year h k) t = of_long_year h k

value_in : (v : DateValue) → EachEnd Given v → Untimed v → InLevel v
value_in (At a) g t = given-in g t
value_in (After a) g t = given-in g t
value_in (Before a) g t = given-in g t
value_in (Between a b) g t = (given-in g.0 t.0, given-in g.1 t.1)

-- every Date that the reader gives without a time
pub level_in : (b table : List ℕ) {d : Date} → parsed_level_one b table ≡ Ok d → Untimed d.value → InLevel d.value
level_in b table {d} e t = value_in d.value (level-given b table e) t

-- so it reads back from its text as itself
pub level-again : (b table : List ℕ) {d : Date} → parsed_level_one b table ≡ Ok d → Untimed d.value → (start end : ℕ) → parsed_level_one (level_text d) (one_chunk (level_text d) start end) ≡ Ok d
level-again b table {d} e t start end = level-back d (level_in b table e t) start end
