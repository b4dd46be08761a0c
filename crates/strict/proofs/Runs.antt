-- Digits at the front of a text, how many there are, and the number that they write. Assumes nothing.
use mathlib.Core.Path.{◌≡◌, refl, sym, ap, ◌∙◌, subst}
use Prim.Native.Nat.{ℕ, zero, suc, ◌+◌, ◌-◌, ◌*◌, ◌/◌, ◌%◌, ◌^◌, ◌≤◌, ◌<◌}
use native.Mathlib.Omega.{arith}
use native.Mathlib.Decide.{dec_lt}
use native.Mathlib.Nat.{pow-succ', zero-add, add-suc}
use native.Mathlib.Numerals.{add-one}
use mathlib.Core.Bool.{true, false, not, false≢true}
use mathlib.Core.List.{List, [], ◌∷◌, ◌++◌, append_assoc, append-nil}
use lib.Dec.{eqb, lit<}
use lib.ListN.{length, get_or, take, drop, length-append}
use lib.Seq.{take-suc, drop-drop, get_or-drop}
use borrow.Author.Tests.{eq-eqb}
use Rattle.chars.specs.Pick.{pick}
use Rattle.chars.specs.Classes.{is_ascii_digit, within}
use Rattle.chars.proofs.Cases.{by-test}
use Rattle.strict.specs.Digits.{digits}
use Rattle.strict.specs.LevelMatcher.{run, value_from}
use Rattle.strict.proofs.Places.{Split, none-taken, inside}
use Rattle.strict.proofs.Pieces.{written}
use Rattle.strict.proofs.Digits.{Digit, digit}

abbrev value : List ℕ → ℕ
value l = value_from 0 l

snoc : (m : ℕ) (l : List ℕ) (x : ℕ) → value_from m (l ++ (x ∷ [])) ≡ value_from m l * 10 + (x - 48)
unfolding value_from
snoc m [] x = refl
snoc m (y ∷ l) x = snoc (m * 10 + (y - 48)) l x

pub digits_long : (w n : ℕ) → length (digits w n) ≡ w
digits_long zero n = refl
digits_long (suc w) n = length-append (digits w (n / 10)) _ ∙ omega (arith, digits_long w (n / 10))

pub value-digits : (w n : ℕ) → n < 10 ^ w → value (digits w n) ≡ n
unfolding value_from
value-digits zero n h = omega arith
value-digits (suc w) n h =
    snoc 0 (digits w (n / 10)) (48 + n % 10)
    ∙ ap (λ (k : ℕ). k * 10 + (48 + n % 10 - 48)) (value-digits w (n / 10) (let p = pow-succ' 10 w in omega arith))
    ∙ omega arith

run_step : (w g n : ℕ) (r : List ℕ) → w + run (suc g) ((48 + n % 10) ∷ r) ≡ suc w + run g r
unfolding run pick
run_step w g n r = rw (written n) (omega arith)

no_less : (f : ℕ) → f ≡ f - 0
no_less f = omega arith

less_one : (w f : ℕ) → suc w ≤ f → f - w ≡ suc (f - suc w)
less_one w f h = omega arith

run-digits : (w f n : ℕ) (r : List ℕ) → w ≤ f → run f (digits w n ++ r) ≡ w + run (f - w) r
run-digits zero f n r h = ap (λ (k : ℕ). run k r) (no_less f) ∙ sym (zero-add (run (f - 0) r))
run-digits (suc w) f n r h =
    ap (run f) (append_assoc (digits w (n / 10)) ((48 + n % 10) ∷ []) r)
    ∙ run-digits w f (n / 10) ((48 + n % 10) ∷ r) (omega arith)
    ∙ ap (λ (k : ℕ). w + run k ((48 + n % 10) ∷ r)) (less_one w f h)
    ∙ run_step w (f - suc w) n r

pub run_none : (f : ℕ) (r : List ℕ) → is_ascii_digit (get_or r 0 0) ≡ false → run f r ≡ 0
unfolding run pick
run_none zero r h = refl
run_none (suc f) [] h = refl
run_none (suc f) (x ∷ r) h = rw h

pub run_is : (w n : ℕ) (r : List ℕ) → w ≤ 10 → is_ascii_digit (get_or r 0 0) ≡ false → run 10 (digits w n ++ r) ≡ w
run_is w n r h e = run-digits w 10 n r h ∙ ap (λ (k : ℕ). w + k) (run_none (10 - w) r e) ∙ omega arith

-- what stands at the front as a run of digits
pub data AllDigits : List ℕ → Type 0 where
  none : AllDigits []
  more : {x : ℕ} {l : List ℕ} → Digit x → AllDigits l → AllDigits (x ∷ l)

pub record Ran (l : List ℕ) (k : ℕ) : Type 0 where
  pub text : List ℕ
  pub all : AllDigits text
  pub size : length text ≡ k
  pub split : Split l text (drop k l)

pub run-taken : (f : ℕ) (l : List ℕ) → Ran l (run f l)
unfolding run
run-taken zero l = record { text = []; all = none; size = refl; split = none-taken }
run-taken (suc f) [] = record { text = []; all = none; size = refl; split = none-taken }
run-taken (suc f) (x ∷ l) =
    by-test (Ran (x ∷ l)) (is_ascii_digit x)
    (λ e.
    let g = run-taken f l in
    record { text = x ∷ g.text; all = more (digit x e) g.all; size = ap suc g.size; split = record { is = ap {B = List ℕ} (λ (r : List ℕ). x ∷ r) g.split.is } })
    (λ _. record { text = []; all = none; size = refl; split = none-taken })

plus_none : (j : ℕ) → j + 0 ≡ j
plus_none j = omega arith

plus_one : (j k : ℕ) → j + suc k ≡ suc j + k
plus_one j k = omega arith

rejoined : (j : ℕ) (l : List ℕ) {p m c x : ℕ} → p ≡ m → c ≡ x → digits j p ++ (c ∷ l) ≡ digits j m ++ (x ∷ l)
rejoined j l e f = cc

-- digits are those of the number that they write
digits_are : (j m : ℕ) {l : List ℕ} → AllDigits l → digits (j + length l) (value_from m l) ≡ digits j m ++ l
unfolding value_from
digits_are j m none = ap (λ (k : ℕ). digits k m) (plus_none j) ∙ sym (append-nil (digits j m))
digits_are j m (more {x} {l} d a) =
    let n = m * 10 + (x - 48) in
    ap (λ (k : ℕ). digits k (value_from n l)) (plus_one j (length l))
    ∙ digits_are (suc j) n a
    ∙ append_assoc (digits j (n / 10)) ((48 + n % 10) ∷ []) l
    ∙ rejoined j l (omega (arith, d.low, d.high)) (omega (arith, d.low, d.high))

below : (j m : ℕ) {l : List ℕ} → AllDigits l → m < 10 ^ j → value_from m l < 10 ^ (j + length l)
unfolding value_from
below j m none h = subst (λ (k : ℕ). m < 10 ^ k) (sym (plus_none j)) h
below j m (more {x} {l} d a) h =
    subst (λ (k : ℕ). value_from (m * 10 + (x - 48)) l < 10 ^ k) (sym (plus_one j (length l)))
    (below (suc j) (m * 10 + (x - 48)) a (let p = pow-succ' 10 j in omega (arith, d.high, h)))

above : (j m : ℕ) {l : List ℕ} → AllDigits l → 10 ^ j ≤ m → 10 ^ (j + length l) ≤ value_from m l
unfolding value_from
above j m none h = subst (λ (k : ℕ). 10 ^ k ≤ m) (sym (plus_none j)) h
above j m (more {x} {l} d a) h =
    subst (λ (k : ℕ). 10 ^ k ≤ value_from (m * 10 + (x - 48)) l) (sym (plus_one j (length l)))
    (above (suc j) (m * 10 + (x - 48)) a (let p = pow-succ' 10 j in omega (arith, h)))

-- a first digit that is not zero
pub nonzero : (x : ℕ) → 48 ≤ x → not (eqb x 48) ≡ true → 49 ≤ x
nonzero x h z = elim (dec_lt 48 x) [ yes l ↦ omega (arith, l) | no l ↦ absurd (false≢true (rw (eq-eqb x 48 (omega (arith, l))) at z)) ]

lowest : (m : ℕ) {l : List ℕ} → AllDigits l → 1 ≤ m → 10 ^ length l ≤ value_from m l
lowest m {l} a h = subst (λ (k : ℕ). 10 ^ k ≤ value_from m l) (zero-add (length l)) (above 0 m a h)

pub highest : {l : List ℕ} → AllDigits l → value_from 0 l < 10 ^ length l
highest {l} a = subst (λ (k : ℕ). value_from 0 l < 10 ^ k) (zero-add (length l)) (below 0 0 a (lit< tt))

pub as-digits : {l : List ℕ} → AllDigits l → digits (length l) (value_from 0 l) ≡ l
as-digits {l} a = ap (λ (k : ℕ). digits k (value_from 0 l)) (sym (zero-add (length l))) ∙ digits_are 0 0 a

pub first-lowest : (x : ℕ) {l : List ℕ} → AllDigits l → 49 ≤ x → 10 ^ length l ≤ value_from 0 (x ∷ l)
unfolding value_from
first-lowest x a h = lowest (0 * 10 + (x - 48)) a (omega arith)

-- ---- one digit more

-- how far a reader is that has taken n digits, which write v
pub record Taken (l : List ℕ) (n v : ℕ) : Type 0 where
  pub few : n ≤ 10
  pub left : run 10 l ≡ n + run (10 - n) (drop n l)
  pub number : v ≡ value_from 0 (take n l)
  pub small : v < 10 ^ n

pub none_yet : (l : List ℕ) → Taken l 0 0
unfolding value_from
none_yet l = record { few = omega arith; left = sym (zero-add (run 10 l)); number = refl; small = lit< tt }

run-one : (f : ℕ) (r : List ℕ) → is_ascii_digit (get_or r 0 0) ≡ true → run (suc f) r ≡ suc (run f (drop 1 r))
unfolding run pick is_ascii_digit within
run-one f [] h = absurd (false≢true h)
run-one f (x ∷ r) h = rw h

at_front : (l : List ℕ) (n : ℕ) → get_or (drop n l) 0 0 ≡ get_or l n 0
at_front l n = get_or-drop n l 0 0 ∙ ap (λ (k : ℕ). get_or l k 0) (plus_none n)

run_on : (n : ℕ) (l : List ℕ) → n < 10 → is_ascii_digit (get_or l n 0) ≡ true → n + run (10 - n) (drop n l) ≡ suc n + run (10 - suc n) (drop (suc n) l)
run_on n l h e =
    ap (λ (k : ℕ). n + run k (drop n l)) (less_one n 10 h)
    ∙ ap (λ (k : ℕ). n + k) (run-one (10 - suc n) (drop n l) (ap is_ascii_digit (at_front l n) ∙ e))
    ∙ ap (λ (r : List ℕ). n + suc (run (10 - suc n) r)) (drop-drop 1 n l ∙ ap (λ (k : ℕ). drop k l) (add-one n))
    ∙ plus_one n (run (10 - suc n) (drop (suc n) l))

more-taken : {l : List ℕ} {n v : ℕ} → Taken l n v → n < 10 → is_ascii_digit (get_or l n 0) ≡ true → Taken l (suc n) (v * 10 + (get_or l n 0 - 48))
more-taken {l} {n} {v} t h e =
    let d = digit (get_or l n 0) e in
    let p = pow-succ' 10 n in
    record {
      few = omega arith;
      left = t.left ∙ run_on n l h e;
      number =
          ap (λ (k : ℕ). k * 10 + (get_or l n 0 - 48)) t.number
          ∙ sym (snoc 0 (take n l) (get_or l n 0))
          ∙ ap (value_from 0) (sym (take-suc l n 0 (inside l n refl (omega (arith, d.low)))));
      small = omega (arith, d.low, d.high, t.small);
    }

-- one digit more
pub one_more : {l : List ℕ} {n v : ℕ} → Taken l n v → n < 10 → is_ascii_digit (get_or l n 0) ≡ true → Taken l (n + 1) (v * 10 + (get_or l n 0 - 48))
one_more {l} {n} {v} t h e = subst (λ (k : ℕ). Taken l k (v * 10 + (get_or l n 0 - 48))) (sym (add-one n)) (more-taken t h e)

-- no digit more
pub all-taken : {l : List ℕ} {n v : ℕ} → Taken l n v → is_ascii_digit (get_or l n 0) ≡ false → n ≡ run 10 l
all-taken {l} {n} t e = omega (arith, t.left, run_none (10 - n) (drop n l) (ap is_ascii_digit (at_front l n) ∙ e))

-- ten are taken
pub ten-taken : {l : List ℕ} {n v : ℕ} → Taken l n v → 10 ≤ n → n ≡ run 10 l
unfolding run
ten-taken {l} {n} t h = sym (t.left ∙ ap (λ (k : ℕ). n + run k (drop n l)) (none_left n h) ∙ plus_none n)
  where
    none_left : (n : ℕ) → 10 ≤ n → 10 - n ≡ 0
    none_left n h = omega arith

-- a number of at most nine digits
ten-more : (n k : ℕ) → 10 ^ n ≤ 10 ^ (n + k)
ten-more n zero = omega (arith, ap (λ (j : ℕ). 10 ^ j) (plus_none n))
ten-more n (suc k) = let p = pow-succ' 10 (n + k) in omega (arith, ten-more n k, ap (λ (j : ℕ). 10 ^ j) (add-suc n k))

pub nine-digits : (n v : ℕ) → v < 10 ^ n → n ≤ 9 → v < 1000000000
nine-digits n v h l = let e : n + (9 - n) ≡ 9 = omega arith in omega (arith, ten-more n (9 - n), ap (λ (j : ℕ). 10 ^ j) e)

-- nor has one of ten more than this
pub ten-digits : (n v : ℕ) → v < 10 ^ n → n ≤ 10 → v < 10000000000
ten-digits n v h l = let e : n + (10 - n) ≡ 10 = omega arith in omega (arith, ten-more n (10 - n), ap (λ (j : ℕ). 10 ^ j) e)
