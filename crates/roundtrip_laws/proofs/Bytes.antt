-- Texts by the bytes that stand in them, and what the readers' first steps make of such texts: nothing is trimmed, nothing has another upper
-- case, an X and a slash are found where they stand.
-- Assumes nothing.
use mathlib.Core.Path.{◌≡◌, refl, sym, ap, ◌∙◌}
use mathlib.Core.Bool.{Bool, true, false}
use mathlib.Core.List.{List, [], ◌∷◌, ◌++◌}
use mathlib.Core.Logic.{◌⊎◌, ⊎_elim, inl, inr}
use Prim.Native.Nat.{ℕ, zero, suc, ◌+◌, ◌≤◌, ◌<◌}
use native.Mathlib.Omega.{arith}
use borrow.Author.Tests.{ne_eqb, eq-eqb, lt-ltb, lt-leb}
use lib.Dec.{eqb, lit<, lit≤}
use lib.ListN.{length, get_or, length-append}
use lib.Seq.{take-length}
use Rattle.chars.specs.Pick.{pick}
use Rattle.scanner.specs.declared.Class.TheVariants.{Whitespace}
use Rattle.scanner.specs.Scan.{eat_while}
use Rattle.scanner.proofs.Laws.{not_white}
use Rattle.scanner.proofs.Front.{from_start, front-stop}
use Rattle.chunks.specs.Plain.{all_ascii, plain_byte, plain_text}
use Rattle.chunks.specs.Upper.{uppercase}
use Rattle.chunks.proofs.Plains.{plain-high, upper-plain}
use Rattle.numbers.proofs.Reading.{bytes, AreDigits, length-bytes}
use Rattle.numbers.proofs.Trims.{Plain, plain-trim}
use Rattle.datefield.specs.Text.{trimmed, first_of, is_blank}

-- each byte is of a class
pub data Each (P : ℕ → Type 0) : List ℕ → Type 0 where
  none : Each P []
  more : {x : ℕ} {l : List ℕ} → P x → Each P l → Each P (x ∷ l)

module _ {P : ℕ → Type 0} where
  pub each_append : {s t : List ℕ} → Each P s → Each P t → Each P (s ++ t)
  each_append none k = k
  each_append (more h s) k = more h (each_append s k)

  pub each-bytes : ((d : ℕ) → d < 10 → P (48 + d)) → (ds : List ℕ) → AreDigits ds → Each P (bytes ds)
  each-bytes p [] h = none
  each-bytes p (d ∷ ds) h = more (p d h.0) (each-bytes p ds h.1)

  pub each_at : {l : List ℕ} → Each P l → (i : ℕ) → i < length l → P (get_or l i 0)
  each_at none i h = absurd (omega arith)
  each_at (more p l) zero h = p
  each_at (more p l) (suc i) h = each_at l i (omega arith)

pub each_of : {P Q : ℕ → Type 0} {l : List ℕ} → ((x : ℕ) → P x → Q x) → Each P l → Each Q l
each_of f none = none
each_of f (more {x} p l) = more (f x p) (each_of f l)

-- printing ASCII characters that have no upper case
pub record IsClear (x : ℕ) : Type 0 where
  pub low : 0x20 < x
  pub high : x < 0x80
  pub own : plain_byte true x ≡ x

-- the bytes of a value: from the plus to the Z, without the question mark, so that none is a mark
pub record InValue (x : ℕ) : Type 0 where
  pub low : 0x2B ≤ x
  pub high : x ≤ 0x5A
  pub unmarked : eqb x 0x3F ≡ false

-- the bytes of a point: no slash and no X
pub record InPoint (x : ℕ) : Type 0 where
  pub in_value : InValue x
  pub no_slash : eqb x 0x2F ≡ false
  pub no_x : eqb x 0x58 ≡ false

-- what is known of a point's text: its bytes, and how long it is
pub record PointText (s : List ℕ) : Type 0 where
  pub in_point : Each InPoint s
  pub long : 4 ≤ length s
  pub short : length s ≤ 26

-- and of a value's
pub record ValueText (s : List ℕ) : Type 0 where
  pub in_value : Each InValue s
  pub some : 0 < length s
  pub short : length s ≤ 53

abbrev pub Clear : List ℕ → Type 0
Clear = Each IsClear

-- no byte is b
abbrev pub Without : ℕ → List ℕ → Type 0
Without b = Each (λ (x : ℕ). eqb x b ≡ false)

-- the classes of single bytes
pub low_same : (x : ℕ) → x < 0x61 → plain_byte true x ≡ x
unfolding plain_byte pick
low_same x h = rw (lt-leb 0x61 x h)

pub value-clear : (x : ℕ) → InValue x → IsClear x
value-clear x h = record { low = omega arith; high = omega arith; own = low_same x (omega arith) }

digit_not : (d b : ℕ) → d < 10 → (b < 48) ⊎ (57 < b) → eqb (48 + d) b ≡ false
digit_not d b h o = ne_eqb (48 + d) b (λ (e : 48 + d ≡ b). ⊎_elim (λ l. omega arith) (λ l. omega arith) o)

pub point-digit : (d : ℕ) → d < 10 → InPoint (48 + d)
point-digit d h =
    record {
      in_value = record { low = omega arith; high = omega arith; unmarked = digit_not d 0x3F h (inr (lit< tt)) };
      no_slash = digit_not d 0x2F h (inl (lit< tt));
      no_x = digit_not d 0x58 h (inr (lit< tt));
    }

pub value-digit : (d : ℕ) → d < 10 → InValue (48 + d)
value-digit d h = (point-digit d h).in_value

-- a separator is a byte of a point
separator : (x : ℕ) → 0x2B ≤ x → x ≤ 0x5A → eqb x 0x3F ≡ false → eqb x 0x2F ≡ false → eqb x 0x58 ≡ false → InPoint x
separator x l h m s k = record { in_value = record { low = l; high = h; unmarked = m }; no_slash = s; no_x = k }

pub minus-in : InPoint 0x2D
minus-in = separator 0x2D (lit≤ tt) (lit≤ tt) refl refl refl

pub plus-in : InPoint 0x2B
plus-in = separator 0x2B (lit≤ tt) (lit≤ tt) refl refl refl

pub colon-in : InPoint 0x3A
colon-in = separator 0x3A (lit≤ tt) (lit≤ tt) refl refl refl

pub tee-in : InPoint 0x54
tee-in = separator 0x54 (lit≤ tt) (lit≤ tt) refl refl refl

pub zed-in : InPoint 0x5A
zed-in = separator 0x5A (lit≤ tt) (lit≤ tt) refl refl refl

-- a piece of a point's text: its bytes, and how long it is at most
pub record Piece (n : ℕ) (s : List ℕ) : Type 0 where
  pub in_point : Each InPoint s
  pub short : length s ≤ n

pub empty : {n : ℕ} → Piece n []
empty {n} = record { in_point = none; short = omega arith }

pub joined : {m n : ℕ} {s t : List ℕ} → Piece m s → Piece n t → Piece (m + n) (s ++ t)
joined {s = s} {t = t} a b =
    let e = length-append s t in
    record { in_point = each_append a.in_point b.in_point; short = omega arith }

pub bytes-piece : (ds : List ℕ) → AreDigits ds → Piece (length ds) (bytes ds)
bytes-piece ds h = let l = length-bytes ds in record { in_point = each-bytes point-digit ds h; short = omega arith }

pub point-clear : {s : List ℕ} → Each InPoint s → Clear s
point-clear e = each_of (λ x (h : InPoint x). value-clear x h.in_value) e

-- no X and no slash stand in it
pub without-x : {s : List ℕ} → Each InPoint s → Without 0x58 s
without-x e = each_of (λ x (h : InPoint x). h.no_x) e

pub without-slash : {s : List ℕ} → Each InPoint s → Without 0x2F s
without-slash e = each_of (λ x (h : InPoint x). h.no_slash) e

-- a point's text, alone or in a range, is a value's
pub point-in : {s : List ℕ} → PointText s → Each InValue s
point-in p = each_of (λ x (h : InPoint x). h.in_value) p.in_point

slash-in : InValue 0x2F
slash-in = record { low = lit≤ tt; high = lit≤ tt; unmarked = refl }

dot-in : InValue 0x2E
dot-in = record { low = lit≤ tt; high = lit≤ tt; unmarked = refl }

pub alone-text : {s : List ℕ} → PointText s → ValueText s
alone-text p = record { in_value = point-in p; some = omega arith; short = omega arith }

pub between-text : {s t : List ℕ} → PointText s → PointText t → ValueText (s ++ 47 ∷ t)
between-text {s} {t} p q =
    let l = length-append s (47 ∷ t) in
    record { in_value = each_append (point-in p) (more slash-in (point-in q)); some = omega arith; short = omega arith }

pub after_text : {s : List ℕ} → PointText s → ValueText (s ++ 47 ∷ 46 ∷ 46 ∷ [])
after_text {s} p =
    let l = length-append s (47 ∷ 46 ∷ 46 ∷ []) in
    record { in_value = each_append (point-in p) (more slash-in (more dot-in (more dot-in none))); some = omega arith; short = omega arith }

pub before_text : {s : List ℕ} → PointText s → ValueText (46 ∷ 46 ∷ 47 ∷ s)
before_text p = record { in_value = more dot-in (more dot-in (more slash-in (point-in p))); some = omega arith; short = omega arith }

-- a text that begins with no white space
pub clear-front : {x : ℕ} {l : List ℕ} → Clear (x ∷ l) → eat_while Whitespace (x ∷ l) 0 ≡ 0
clear-front {x} {l} (more p r) = front-stop (from_start (x ∷ l)) Whitespace p.high (not_white x p.low p.high)

pub not_blank : {l : List ℕ} → Clear l → 0 < length l → is_blank l ≡ false
unfolding is_blank
not_blank none h = absurd (omega arith)
not_blank (more {x} {l} p r) h = rw (clear-front (more p r)) (lt-leb (length (x ∷ l)) 0 h)

-- nothing of it is trimmed
clear-plain : {l : List ℕ} → Clear l → Plain l
clear-plain none = tt
clear-plain (more {x} p l) = ((p.high, not_white x p.low p.high), clear-plain l)

pub clear-trimmed : {l : List ℕ} → Clear l → trimmed l ≡ l
unfolding trimmed
clear-trimmed {l} c = rw (plain-trim l (clear-plain c)) (take-length l)

-- formatting leaves it as it is, with upper case and without
either_same : (u : Bool) (x : ℕ) → plain_byte true x ≡ x → plain_byte u x ≡ x
unfolding plain_byte pick
either_same true x e = e
either_same false x e = refl

pub clear-text : (u w : Bool) {l : List ℕ} → Clear l → plain_text u w l ≡ l
unfolding plain_text
clear-text u w none = refl
clear-text u w (more {x} {l} p c) =
    let h = plain-high u w x p.low p.high in
    rw (h.0, h.1, either_same u x p.own, clear-text u false c)

pub clear-ascii : {l : List ℕ} → Clear l → all_ascii l ≡ true
unfolding all_ascii
clear-ascii none = refl
clear-ascii (more {x} p c) = rw (lt-ltb x 0x80 p.high, clear-ascii c)

-- and upper case alone does too
pub clear-upper : {l : List ℕ} → Clear l → uppercase l ≡ l
clear-upper {l} c = ap uppercase (sym (clear-text false false c)) ∙ upper-plain l (clear-ascii c) ∙ clear-text true false c

-- the first of a byte
pub first-none : (b : ℕ) {u : List ℕ} → Without b u → first_of b u ≡ length u
unfolding first_of pick
first-none b none = refl
first-none b (more {x} h u) = rw (h, first-none b u)

pub first_some : (b : ℕ) {u : List ℕ} (v : List ℕ) → Without b u → first_of b (u ++ b ∷ v) ≡ length u
unfolding first_of pick
first_some b v none = rw (eq-eqb b b refl)
first_some b v (more {x} h u) = rw (h, first_some b v u)
