-- The reader of level-one points is exact. Assumes nothing.
use mathlib.Core.Path.{◌≡◌, refl, sym, ap, ◌∙◌, subst}
use Prim.Native.Nat.{ℕ, zero, suc, ◌+◌, ◌/◌, ◌%◌, ◌^◌, ◌≤◌, ◌<◌}
use native.Mathlib.Omega.{arith}
use native.Mathlib.Nat.{pow-succ'}
use mathlib.Core.Bool.{Bool, true, false, not, ◌&&◌}
use mathlib.Core.List.{List, [], ◌∷◌, ◌++◌}
use mathlib.Core.Logic.{◌↔◌}
use lib.Dec.{leb, eqb, lit<}
use lib.IntN.{ℤ, pos, neg_ℤ}
use lib.ListN.{length, get_or, take, drop}
use lib.Seq.{take-append_seam, drop-append_seam, drop-drop}
use borrow.Author.Tests.{eqb-true, ne_eqb, le-leb, lt-leb, leb-true}
use Rattle.chars.specs.Pick.{pick}
use Rattle.chars.specs.Classes.{is_ascii_digit, within}
use Rattle.chars.proofs.Cases.{by-test, and-true}
use Rattle.dates.specs.declared.Day.{Day}
use Rattle.dates.specs.declared.Month.{Month}
use Rattle.dates.specs.declared.Time.{Time}
use Rattle.std.specs.Prelude.{Option, Some, None}
use Rattle.dates.specs.declared.Datetime.{Datetime}
use Rattle.dates.specs.declared.DateValue.{DateValue}
use Rattle.dates.specs.declared.Date.{Date}
use Rattle.dates.specs.Value.{datetime, season_of}
use Rattle.strict.specs.Digits.{digits}
use Rattle.strict.specs.Grammar.{Year, dddd, -dddd, Field, InYear, no_month, -mm, Point, text, Value, alone, between, after, before, unknown, Text}
use Rattle.strict.specs.Grammar
use Rattle.strict.specs.Matcher.{is, on, on_four, four, counted, field, unknown_parts}
use Rattle.chars.specs.Signs.{signed}
use Rattle.strict.specs.Matcher as matcher
use Rattle.strict.specs.Level.{season_at, LongYear, Yd, Y_d, LevelPoint, strictly, season, long, LevelText}
use Rattle.strict.specs.LevelMatcher.{level_year, level_at, run, value_from, long_at, level_point, level}
use Rattle.strict.proofs.Places.{From, Split, here, first, further, joined, none-taken, one-taken}
use Rattle.strict.proofs.Points.{Ends, Before, Derived, nothing, upto, Exact}
use Rattle.strict.proofs.Pieces.{by_two, by-four, four-back, four-inv, field_at, field-inv, field-behind, no_field, two_back}
use Rattle.strict.proofs.Complete.{month_read}
use Rattle.strict.proofs.Sound.{MonthAt, month_at, month-taken}
use Rattle.strict.proofs.Ranges.{no_digit, point-known, point-closed, field-xx}
use Rattle.strict.proofs.Runs.{AllDigits, none, more, Ran, value-digits, digits_long, run_is, run-taken, nonzero, highest, as-digits, first-lowest}
use Rattle.strict.proofs.Exact.{exact-of, refused-of, unique-of}

-- ---- what is derived is read

module _ {r : List ℕ} (e : Ends r) {s : List ℕ} {at : ℕ} (y : ℤ) where
  no-season : {t : List ℕ} {m : Option Month} {d : Option Day} {c : Option Time} → InYear y t m d c → From s at (t ++ r) → field 45 21 24 (drop at s) ≡ None
  unfolding field counted on pick
  no-season no_month f = no_field 45 21 24 f e.dash
  no-season (-mm {t = b} (Grammar.field m h) d) f = rw (f.is, two_back (1 + m) (b ++ r) (omega arith), lt-leb 21 (1 + m) (omega arith))

  strict-read : {t : List ℕ} {m : Option Month} {d : Option Day} {c : Option Time} → InYear y t m d c → From s at (t ++ r) → Before s r (λ n. level_year s at y ≡ Some (datetime y m d c, n))
  unfolding level_year on
  strict-read p f = let o = month_read e y p f in record { place = o.place; left = o.left; reads = rw (no-season p f) o.reads }

  season-read : {t : List ℕ} {n : ℕ} → Field 45 21 24 t n → From s at (t ++ r) → Before s r (λ k. level_year s at y ≡ Some (season_of y (season_at n), k))
  unfolding level_year on
  season-read p f = record { place = at + 3; left = field-behind p r f; reads = rw (field_at p r f (lit< tt)) }

-- the first digit of a number of so many digits
record Front (w n : ℕ) : Type 0 where
  d : ℕ
  behind : List ℕ
  shown : digits (suc w) n ≡ (48 + d) ∷ behind
  low : 1 ≤ d
  high : d ≤ 9

front : (w n : ℕ) → 10 ^ w ≤ n → n < 10 ^ suc w → Front w n
front zero n h k = record { d = n % 10; behind = []; shown = refl; low = omega arith; high = omega arith }
front (suc w) n h k =
    let p = pow-succ' 10 w in
    let q = pow-succ' 10 (suc w) in
    let f = front w (n / 10) (omega (arith, h)) (omega (arith, k)) in
    record { d = f.d; behind = f.behind ++ ((48 + n % 10) ∷ []); shown = ap (λ (l : List ℕ). l ++ ((48 + n % 10) ∷ [])) f.shown; low = f.low; high = f.high }

module _ {s r : List ℕ} (e : Ends r) (at w n : ℕ) (negative : Bool) (lo : 4 ≤ w) (hi : w ≤ 8) (h : 10 ^ w ≤ n) (k : n < 10 ^ suc w) (f : From s at (digits (suc w) n ++ r)) where
  byte-first : get_or s at 0 ≡ 48 + (front w n h k).d
  byte-first = first f ∙ ap (λ (l : List ℕ). get_or (l ++ r) 0 0) (front w n h k).shown

  run-here : run 10 (drop at s) ≡ suc w
  run-here = ap (run 10) f.is ∙ run_is (suc w) n r (omega arith) e.digit

  take-here : take (suc w) (drop at s) ≡ digits (suc w) n
  take-here =
      ap (take (suc w)) f.is
      ∙ ap (λ (j : ℕ). take j (digits (suc w) n ++ r)) (sym (digits_long (suc w) n))
      ∙ take-append_seam (digits (suc w) n) r

  not-nought : eqb (get_or s at 0) 48 ≡ false
  not-nought = rw byte-first (ne_eqb (48 + (front w n h k).d) 48 (λ (z : 48 + (front w n h k).d ≡ 48). omega (arith, (front w n h k).low)))

  long-read : Before s r (λ j. long_at s at negative ≡ Some (datetime (signed negative n) None None None, j))
  unfolding long_at pick
  long-read =
      record {
        place = at + suc w;
        left = record { is = (further f (suc w)).is ∙ ap (λ (j : ℕ). drop j (digits (suc w) n ++ r)) (sym (digits_long (suc w) n)) ∙ drop-append_seam (digits (suc w) n) r };
        reads = rw (run-here, le-leb 5 (suc w) (omega arith), le-leb (suc w) 9 (omega arith), not-nought, take-here, value-digits (suc w) n k);
      }

-- a byte that is a digit is no other
digit_not : (d c : ℕ) → d ≤ 9 → 57 < c → eqb (48 + d) c ≡ false
digit_not d c h k = ne_eqb (48 + d) c (λ (e : 48 + d ≡ c). omega arith)

pub level-read : {s t r : List ℕ} {a : Datetime} → Ends r → LevelPoint t a → Split s t r → Before s r (λ n. level_point s ≡ Some (a, n))
unfolding level_point level_at on_four signed pick
level-read {s} {r = r} e (strictly (Grammar.point {t = t} (dddd n h) p)) f =
    let g : From s 0 (digits 4 n ++ (t ++ r)) = record { is = f.is } in
    let o = strict-read e (pos n) p (further g 4) in
    record {
      place = o.place;
      left = o.left;
      reads = rw (first g, digit_not (n / 10 / 10 / 10 % 10) 89 (omega arith) (lit< tt), ne_eqb (48 + n / 10 / 10 / 10 % 10) 45 (λ e. omega arith), ap four g.is ∙ four-back n (t ++ r) h, o.reads);
    }
level-read {s} {r = r} e (strictly (Grammar.point {t = t} (-dddd n h) p)) f =
    let g : From s 0 (45 ∷ (digits 4 n ++ (t ++ r))) = record { is = f.is } in
    let k = further g 1 in
    let o = strict-read e (neg_ℤ (pos n)) p (further k 4) in
    record { place = o.place; left = o.left; reads = rw (first g, ap four k.is ∙ four-back n (t ++ r) h, o.reads) }
level-read {s} {r = r} e (season {t = t} (dddd n h) q) f =
    let g : From s 0 (digits 4 n ++ (t ++ r)) = record { is = f.is } in
    let o = season-read e (pos n) q (further g 4) in
    record {
      place = o.place;
      left = o.left;
      reads = rw (first g, digit_not (n / 10 / 10 / 10 % 10) 89 (omega arith) (lit< tt), ne_eqb (48 + n / 10 / 10 / 10 % 10) 45 (λ e. omega arith), ap four g.is ∙ four-back n (t ++ r) h, o.reads);
    }
level-read {s} {r = r} e (season {t = t} (-dddd n h) q) f =
    let g : From s 0 (45 ∷ (digits 4 n ++ (t ++ r))) = record { is = f.is } in
    let k = further g 1 in
    let o = season-read e (neg_ℤ (pos n)) q (further k 4) in
    record { place = o.place; left = o.left; reads = rw (first g, ap four k.is ∙ four-back n (t ++ r) h, o.reads) }
level-read {s} {r = r} e (long (Yd w n lo hi h k)) f =
    let g : From s 0 (89 ∷ (digits (suc w) n ++ r)) = record { is = f.is } in
    let l = further g 1 in
    let o = long-read e 1 w n false lo hi h k l in
    let b = front w n h k in
    record {
      place = o.place;
      left = o.left;
      reads = rw (first g, byte-first e 1 w n false lo hi h k l, ne_eqb (48 + b.d) 45 (λ (z : 48 + b.d ≡ 45). omega arith), o.reads);
    }
level-read {s} {r = r} e (long (Y_d w n lo hi h k)) f =
    let g : From s 0 (89 ∷ (45 ∷ (digits (suc w) n ++ r))) = record { is = f.is } in
    let l = further g 1 in
    let o = long-read e 2 w n true lo hi h k (further g 2) in
    record { place = o.place; left = o.left; reads = rw (first g, first l, o.reads) }

-- ---- no range by X starts like such a point, nor does an open end

pub level-known : {s t r : List ℕ} {a : Datetime} → Ends r → LevelPoint t a → Split s t r → matcher.unknown s ≡ None
unfolding matcher.unknown on_four unknown_parts field counted on pick is_ascii_digit within
level-known e (strictly p) f = point-known e p f
level-known {s} {r = r} e (season {t = t} (dddd n h) (Grammar.field m k)) f =
    ap matcher.unknown f.is
    ∙ rw (ne_eqb (48 + n % 10) 88 (λ e. omega arith), four-back n (t ++ r) h, field-xx {low = 21} (Grammar.field m k) r, two_back (21 + m) r (omega arith), le-leb 1 (21 + m) (omega arith), lt-leb (21 + m) 12 (omega arith))
level-known {s} e (season (-dddd n h) q) f = no_digit s (ap (λ (l : List ℕ). is_ascii_digit (get_or l 0 0)) f.is)
level-known {s} e (long (Yd w n lo hi h k)) f = no_digit s (ap (λ (l : List ℕ). is_ascii_digit (get_or l 0 0)) f.is)
level-known {s} e (long (Y_d w n lo hi h k)) f = no_digit s (ap (λ (l : List ℕ). is_ascii_digit (get_or l 0 0)) f.is)

pub level-closed : {s t r : List ℕ} {a : Datetime} → LevelPoint t a → Split s t r → is 46 s 0 ≡ false
level-closed (strictly p) f = point-closed p f
level-closed (season (dddd n h) q) f = ap (λ (l : List ℕ). is 46 l 0) f.is ∙ ne_eqb (48 + n / 10 / 10 / 10 % 10) 46 (λ e. omega arith)
level-closed (season (-dddd n h) q) f = ap (λ (l : List ℕ). is 46 l 0) f.is
level-closed (long (Yd w n lo hi h k)) f = ap (λ (l : List ℕ). is 46 l 0) f.is
level-closed (long (Y_d w n lo hi h k)) f = ap (λ (l : List ℕ). is 46 l 0) f.is

-- ---- what is read is derived

module _ (s : List ℕ) where
  data YearAt (at : ℕ) (y : ℤ) : Option (Datetime × ℕ) → Type 0 where
    of_month : {r : Option (Datetime × ℕ)} → MonthAt s at y r → YearAt at y r
    of_season : {t : List ℕ} {n : ℕ} → Field 45 21 24 t n → Split (drop at s) t (drop (at + 3) s) → YearAt at y (Some (season_of y (season_at n), at + 3))

  year-taken : (at : ℕ) (y : ℤ) → YearAt at y (level_year s at y)
  unfolding level_year
  year-taken at y =
      by_two (YearAt at y) (field 45 21 24 (drop at s)) (of_month (month-taken s at y)) λ n e.
      let p = field-inv 45 21 24 s at e in
      of_season p.derived p.split

  level-at : (at : ℕ) (negative : Bool) (sign : List ℕ) → Split s sign (drop at s) → ((n : ℕ) → n < 10000 → Year (sign ++ digits 4 n) (signed negative n))
      → Derived LevelPoint s (level_at s at negative)
  unfolding level_at
  level-at at negative sign f year =
      by-four (Derived LevelPoint s) (four (drop at s)) nothing λ n e.
      whole n (four-inv (drop at s) e) (year-taken (at + 4) (signed negative n))
    where
      whole : (n : ℕ) {r : Option (Datetime × ℕ)} → (n < 10000) × Split (drop at s) (digits 4 n) (drop 4 (drop at s)) → YearAt (at + 4) (signed negative n) r → Derived LevelPoint s r
      whole n p (of_month (month_at d g)) =
          let h : Split (drop at s) (digits 4 n) (drop (at + 4) s) = record { is = p.1.is ∙ ap (λ (r : List ℕ). digits 4 n ++ r) (drop-drop 4 at s) } in
          upto (strictly (Grammar.point (year n p.0) d)) (joined (joined f h) g)
      whole n p (of_season q g) =
          let h : Split (drop at s) (digits 4 n) (drop (at + 4) s) = record { is = p.1.is ∙ ap (λ (r : List ℕ). digits 4 n ++ r) (drop-drop 4 at s) } in
          upto (season (year n p.0) q) (joined (joined f h) g)

  -- the digits of a long year
  long-at : (at : ℕ) (negative : Bool) (sign : List ℕ) → Split s sign (drop at s)
      → ((w n : ℕ) → 4 ≤ w → w ≤ 8 → 10 ^ w ≤ n → n < 10 ^ suc w → LongYear (sign ++ digits (suc w) n) (signed negative n))
      → Derived LevelPoint s (long_at s at negative)
  unfolding long_at
  long-at at negative sign f year =
      by-test (Derived LevelPoint s) _
      (λ t.
      let k = run 10 (drop at s) in
      let p = and-true (leb 5 k) (leb k 9 && not (is 48 s at)) t in
      let q = and-true (leb k 9) (not (is 48 s at)) p.1 in
      some (run-taken 10 (drop at s)) (leb-true 5 k p.0) (leb-true k 9 q.0) q.1)
      (λ _. nothing)
    where
      some : {k : ℕ} → Ran (drop at s) k → 5 ≤ k → k ≤ 9 → not (is 48 s at) ≡ true → Derived LevelPoint s (Some (datetime (signed negative (value_from 0 (take k (drop at s)))) None None None, at + k))
      some {k} g lo hi z = go k lo hi g.text g.all g.size g.split
        where
          go : (k : ℕ) → 5 ≤ k → k ≤ 9 → (t : List ℕ) → AllDigits t → length t ≡ k → Split (drop at s) t (drop k (drop at s)) → Derived LevelPoint s (Some (datetime (signed negative (value_from 0 (take k (drop at s)))) None None None, at + k))
          go k lo hi [] none e h = absurd (omega arith)
          go k lo hi (x ∷ l) (more d a) e h =
              let n = value_from 0 (x ∷ l) in
              let x-is : get_or s at 0 ≡ x = sym (here s at) ∙ ap (λ (r : List ℕ). get_or r 0 0) h.is in
              let big : 49 ≤ x = nonzero x d.low (rw x-is at z) in
              let shape : digits (suc (length l)) n ≡ x ∷ l = as-digits (more d a) in
              let taken : take k (drop at s) ≡ x ∷ l = ap (take k) h.is ∙ ap (λ (j : ℕ). take j ((x ∷ l) ++ drop k (drop at s))) (sym e) ∙ take-append_seam (x ∷ l) (drop k (drop at s)) in
              let low : 10 ^ length l ≤ n = first-lowest x a big in
              let high : n < 10 ^ suc (length l) = highest (more d a) in
              let part : Split (drop at s) (digits (suc (length l)) n) (drop (at + k) s) = record { is = h.is ∙ ap (λ (m : List ℕ). m ++ drop k (drop at s)) (sym shape) ∙ ap (λ (m : List ℕ). digits (suc (length l)) n ++ m) (drop-drop k at s) } in
              subst (λ (m : List ℕ). Derived LevelPoint s (Some (datetime (signed negative (value_from 0 m)) None None None, at + k))) (sym taken)
              (upto (long (year (length l) n (omega arith) (omega arith) low high)) (joined f part))

  pub level-taken : Derived LevelPoint s (level_point s)
  unfolding level_point signed
  level-taken =
      by-test (Derived LevelPoint s) (is 89 s 0)
      (λ e.
      let y = one-taken s 0 (eqb-true _ 89 e) (lit< tt) in
      by-test (Derived LevelPoint s) (is 45 s 1)
      (λ g. long-at 2 true (89 ∷ 45 ∷ []) (joined y (one-taken s 1 (eqb-true _ 45 g) (lit< tt))) Y_d)
      (λ _. long-at 1 false (89 ∷ []) y Yd))
      (λ _.
      by-test (Derived LevelPoint s) (is 45 s 0)
      (λ e. level-at 1 true (45 ∷ []) (one-taken s 0 (eqb-true _ 45 e) (lit< tt)) -dddd)
      (λ _. level-at 0 false [] none-taken dddd))

-- ---- exact

pub level-points : Exact LevelPoint level_point
level-points = record { sound = λ s. level-taken s; complete = λ e p f. level-read e p f; known = λ e p f. level-known e p f; closed = λ p f. level-closed p f }

pub level-exact : (s : List ℕ) (d : Date) → (level s ≡ Some d) ↔ LevelText s d
unfolding level
level-exact s d = exact-of level-points s d

pub level-refused : (s : List ℕ) → (level s ≡ None) ↔ ((d : Date) → LevelText s d → ⊥)
unfolding level
level-refused s = refused-of level-points s

pub level-unique : (s : List ℕ) (c d : Date) → LevelText s c → LevelText s d → c ≡ d
level-unique s c d t u = unique-of level-points s c d t u

-- every strict text is one of level one, with the same Date
pub strict-level : {s : List ℕ} {d : Date} → Text s d → LevelText s d
strict-level (text v m) = text (go v) m
  where
    go : {s : List ℕ} {v : DateValue} → Value Point s v → Value LevelPoint s v
    go (alone p) = alone (strictly p)
    go (between p q) = between (strictly p) (strictly q)
    go (after p) = after (strictly p)
    go (before p) = before (strictly p)
    go (unknown x) = unknown x
