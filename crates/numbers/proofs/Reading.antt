-- Reading what is known: digits that stand at a place are read as the number that they are. What callers that know the text use.
-- Assumes nothing.
use mathlib.Core.Path.{◌≡◌, refl, sym, ap, ◌∙◌}
use mathlib.Core.Bool.{true, false}
use mathlib.Core.List.{List, [], ◌∷◌, ◌++◌}
use Prim.Native.Nat.{ℕ, suc, ◌+◌, ◌*◌, ◌^◌, ◌≤◌, ◌<◌}
use native.Mathlib.Nat.{add-zero, pow-le-pow_right}
use native.Mathlib.Omega.{arith}
use borrow.Author.Tests.{le-ltb, lt-leb, ne_eqb}
use lib.Dec.{lit<}
use lib.IntN.{pos, neg_ℤ}
use lib.ListN.{length}
use Rattle.chars.specs.Pick.{pick}
use Rattle.chars.proofs.Laws.{digit-is}
use Rattle.scanner.specs.declared.Class.{Class}
use Rattle.scanner.specs.declared.Class.TheVariants.{Whitespace, Numeric, AsciiDigit, Sign, Is}
use Rattle.numbers.specs.declared.NoNumber.TheVariants.{Wrong}
use Rattle.std.specs.Prelude.{Some, None, Ok, Err}
use Rattle.scanner.specs.Class.{in_class}
use Rattle.scanner.specs.Scan.{match_len, eat_while, eat_if, stands_at, part}
use Rattle.scanner.proofs.Front.{From, front-part, front_rest, front-match, front-go, front-stop, front-end}
use Rattle.scanner.proofs.Digits.{digit-numeric, below-digits, no-numeric, is-it, is-other}
use Rattle.scanner.proofs.Laws.{not_white}
use Rattle.numbers.specs.Number.{admits, cursor, run_value, run_of, run_at, parse_unsigned_int, or_kept, behind_sign, with_sign, parse_int}
use Rattle.chars.specs.Signs.{signed}
use Rattle.numbers.specs.declared.Digits.{Digits}
use Rattle.numbers.specs.Parse.{whole_value, digits_from}
use Rattle.numbers.proofs.Whole.{ten}
use Rattle.numbers.proofs.Laws.{admitted-most, admitted-some, most-four, int-behind}

-- digits, by what they say: their bytes, and the number that they are
abbrev pub bytes : List ℕ → List ℕ
bytes [] = []
bytes (d ∷ ds) = (48 + d) ∷ bytes ds

abbrev pub value : ℕ → List ℕ → ℕ
value acc [] = acc
value acc (d ∷ ds) = value (acc * 10 + d) ds

abbrev pub AreDigits : List ℕ → Type 0
AreDigits [] = Unit {0}
AreDigits (d ∷ ds) = (d < 10) × AreDigits ds

-- what may stand behind digits: nothing, or an ASCII character that is neither numeric nor white space
pub data Behind : List ℕ → Type 0 where
  end : Behind []
  stop : {c : ℕ} {t : List ℕ} → c < 128 → in_class Whitespace c ≡ false → in_class Numeric c ≡ false → Behind (c ∷ t)

-- such a character
pub printing : {c : ℕ} {t : List ℕ} → 0x20 < c → c < 0x80 → in_class AsciiDigit c ≡ false → Behind (c ∷ t)
printing {c} l h n = stop h (not_white c l h) (no-numeric c h n)

-- a digit is no sign and no hyphen
pub digit-sign : (d : ℕ) → d < 10 → in_class Sign (48 + d) ≡ false
unfolding in_class
digit-sign d h = simp (ne_eqb (48 + d) 0x2B (λ e. omega arith), ne_eqb (48 + d) 0x2D (λ e. omega arith))

pub digit-hyphen : (d : ℕ) → d < 10 → in_class (Is 0x2D) (48 + d) ≡ false
digit-hyphen d h = is-other 0x2D (48 + d) (λ (e : 48 + d ≡ 0x2D). omega arith)

-- a hyphen is both
pub hyphen : {t : List ℕ} → Behind (0x2D ∷ t)
hyphen = printing (lit< tt) (lit< tt) (below-digits 0x2D (lit< tt))

pub hyphen-hyphen : in_class (Is 0x2D) 0x2D ≡ true
hyphen-hyphen = is-it 0x2D

pub hyphen-sign : in_class Sign 0x2D ≡ true
unfolding in_class
hyphen-sign = refl

-- no white space, and no digits, stand behind
pub behind-white : {s t : List ℕ} {i : ℕ} → Behind t → From s i t → eat_while Whitespace s i ≡ i
behind-white end f = front-end f Whitespace
behind-white (stop l w n) f = front-stop f Whitespace l w

behind-numeric : {s t : List ℕ} {i : ℕ} → Behind t → From s i t → eat_while Numeric s i ≡ i
behind-numeric end f = front-end f Numeric
behind-numeric (stop l w n) f = front-stop f Numeric l n

-- the run of digits
pub run-digits : (ds : List ℕ) {s t : List ℕ} {i : ℕ} → AreDigits ds → Behind t → From s i (bytes ds ++ t) → eat_while Numeric s i ≡ i + length ds
run-digits [] {s} {t} {i} h b f = behind-numeric b f ∙ sym (add-zero i)
run-digits (d ∷ ds) {s} {t} {i} h b f =
    front-go f Numeric (omega (arith, h.0)) (digit-numeric (48 + d) (omega arith) (omega (arith, h.0))) ∙ run-digits ds h.1 b (front_rest f) ∙ omega arith

-- the number that they are: no less than that of the first of them
value_grows : (acc : ℕ) (ds : List ℕ) → acc ≤ value acc ds
value_grows acc [] = omega arith
value_grows acc (d ∷ ds) = let g = value_grows (acc * 10 + d) ds in omega arith

-- it is read where it is not above the largest
pub value-is : (ds : List ℕ) (top acc : ℕ) → AreDigits ds → value acc ds ≤ top → whole_value top acc (bytes ds) ≡ Some (value acc ds)
unfolding whole_value pick
value-is [] top acc h l = refl
value-is (d ∷ ds) top acc h l =
    let g = value_grows (acc * 10 + d) ds in
    rw (digit-is d h.0, le-ltb 9 d (omega (arith, h.0)), le-ltb top (acc * 10 + d) (omega arith)) (value-is ds top (acc * 10 + d) h.1 l)

-- and it has no more digits than they are
value-small : (ds : List ℕ) (acc m : ℕ) → AreDigits ds → acc < m → value acc ds < m * 10 ^ length ds
value-small [] acc m h l = omega arith
value-small (d ∷ ds) acc m h l =
    rw (← ten m (length ds)) (value-small ds (acc * 10 + d) (m * 10) h.1 (omega (arith, h.0)))

pub length-bytes : (ds : List ℕ) → length (bytes ds) ≡ length ds
length-bytes [] = refl
length-bytes (d ∷ ds) = ap suc (length-bytes ds)

-- the part of the text that they are
pub digits-part : (ds t : List ℕ) {s : List ℕ} {i : ℕ} → From s i (bytes ds ++ t) → part s i (i + length ds) ≡ bytes ds
digits-part ds t {s} {i} f = ap (λ (n : ℕ). part s i (i + n)) (sym (length-bytes ds)) ∙ front-part (bytes ds) t f

module _ (ds : List ℕ) {s t : List ℕ} {i : ℕ} (h : AreDigits ds) (b : Behind t) (f : From s i (bytes ds ++ t)) where
  digits-read : (g : Digits) → admits g (length ds) ≡ true → digits_from 9999 (bytes ds) 0 ≡ Some (value 0 ds)
  unfolding digits_from pick
  digits-read g l =
      let n = length-bytes ds in
      let small : value 0 ds ≤ 9999 =
      omega (arith, value-small ds 0 1 h (lit< tt), pow-le-pow_right {n = 10} (lit< tt) (admitted-most g (length ds) l), most-four g)
      in
      rw (lt-leb (length (bytes ds)) 0 (omega (arith, admitted-some g (length ds) l))) (value-is ds 9999 0 h small)

  -- as many digits as are admitted
  pub run-read : (g : Digits) → admits g (length ds) ≡ true → run_at s i g ≡ Ok (value 0 ds, cursor (i + length ds))
  unfolding run_at run_of run_value pick
  run-read g l = rw (run-digits ds h b f, digits-part ds t f, length-bytes ds, l, digits-read g l)

  -- another number of them
  pub run_wrong : (g : Digits) → admits g (length ds) ≡ false → run_at s i g ≡ Err (Wrong (cursor (i + length ds)))
  unfolding run_at run_of pick
  run_wrong g l = rw (run-digits ds h b f, digits-part ds t f, length-bytes ds, l)

-- what eating one character does, by what stands there
module _ {s t : List ℕ} {i c : ℕ} (f : From s i (c ∷ t)) (k : Class) (l : c < 128) where
  pub front-ate : in_class k c ≡ true → eat_if k s i ≡ Some (cursor (i + 1))
  unfolding eat_if pick
  front-ate y = let m : match_len k s i ≡ 1 = rw y at (front-match f k l) in rw m

  pub front_kept : in_class k c ≡ false → eat_if k s i ≡ None
  unfolding eat_if pick
  front_kept y = let m : match_len k s i ≡ 0 = rw y at (front-match f k l) in rw m

  pub front-seen : in_class k c ≡ true → stands_at k s i ≡ true
  unfolding stands_at pick
  front-seen y = let m : match_len k s i ≡ 1 = rw y at (front-match f k l) in rw m

  pub front-unseen : in_class k c ≡ false → stands_at k s i ≡ false
  unfolding stands_at pick
  front-unseen y = let m : match_len k s i ≡ 0 = rw y at (front-match f k l) in rw m

-- a digit at the front: no white space, no sign
module _ {s t : List ℕ} {i d : ℕ} (h : d < 10) (f : From s i ((48 + d) ∷ t)) where
  pub digit-white : eat_while Whitespace s i ≡ i
  digit-white = front-stop f Whitespace (omega arith) (not_white (48 + d) (omega arith) (omega arith))

  behind-none : behind_sign s i ≡ i
  unfolding behind_sign or_kept
  behind-none = rw (front_kept f Sign (omega arith) (digit-sign d h))

  no_minus : stands_at (Is 0x2D) s i ≡ false
  no_minus = front-unseen f (Is 0x2D) (omega arith) (digit-hyphen d h)

module _ {s t : List ℕ} {i : ℕ} (f : From s i (0x2D ∷ t)) where
  behind-minus : behind_sign s i ≡ i + 1
  unfolding behind_sign or_kept
  behind-minus = rw (front-ate f Sign (lit< tt) hyphen-sign)

  a-minus : stands_at (Is 0x2D) s i ≡ true
  a-minus = front-seen f (Is 0x2D) (lit< tt) hyphen-hyphen

-- a number of digits, where white space may stand before it
module _ (d : ℕ) (ds : List ℕ) {s t : List ℕ} {i : ℕ} (h : AreDigits (d ∷ ds)) (b : Behind t) (f : From s i (bytes (d ∷ ds) ++ t)) where
  pub number_read : (g : Digits) → admits g (suc (length ds)) ≡ true → parse_unsigned_int s i g ≡ Ok (value 0 (d ∷ ds), cursor (i + suc (length ds)))
  unfolding parse_unsigned_int
  number_read g l = rw (digit-white h.0 f) (run-read (d ∷ ds) h b f g l)

  pub number-wrong : (g : Digits) → admits g (suc (length ds)) ≡ false → parse_unsigned_int s i g ≡ Err (Wrong (cursor (i + suc (length ds))))
  unfolding parse_unsigned_int
  number-wrong g l = rw (digit-white h.0 f) (run_wrong (d ∷ ds) h b f g l)

  -- the same where a sign may stand
  pub int-read : (g : Digits) → admits g (suc (length ds)) ≡ true → parse_int s i g ≡ Ok (pos (value 0 (d ∷ ds)), cursor (i + suc (length ds)))
  unfolding with_sign signed
  int-read g l = rw (int-behind s i g, digit-white h.0 f, no_minus h.0 f, behind-none h.0 f, number_read g l)

  pub int-wrong : (g : Digits) → admits g (suc (length ds)) ≡ false → parse_int s i g ≡ Err (Wrong (cursor (i + suc (length ds))))
  unfolding with_sign
  int-wrong g l = rw (int-behind s i g, digit-white h.0 f, no_minus h.0 f, behind-none h.0 f, number-wrong g l)

-- and behind a minus
module _ (d : ℕ) (ds : List ℕ) {s t : List ℕ} {i : ℕ} (h : AreDigits (d ∷ ds)) (b : Behind t) (f : From s i (0x2D ∷ bytes (d ∷ ds) ++ t)) where
  pub minus-read : (g : Digits) → admits g (suc (length ds)) ≡ true → parse_int s i g ≡ Ok (neg_ℤ (pos (value 0 (d ∷ ds))), cursor (i + 1 + suc (length ds)))
  unfolding with_sign signed
  minus-read g l = rw (int-behind s i g, behind-white hyphen f, a-minus f, behind-minus f, number_read d ds h b (front_rest f) g l)

  pub minus-wrong : (g : Digits) → admits g (suc (length ds)) ≡ false → parse_int s i g ≡ Err (Wrong (cursor (i + 1 + suc (length ds))))
  unfolding with_sign
  minus-wrong g l = rw (int-behind s i g, behind-white hyphen f, a-minus f, behind-minus f, number-wrong d ds h b (front_rest f) g l)
