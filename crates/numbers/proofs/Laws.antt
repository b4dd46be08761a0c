-- What callers use of a number that was read: it is below the power of ten that its run's length says.
-- Assumes nothing.
use mathlib.Core.Path.{◌≡◌, refl, subst}
use mathlib.Core.Bool.{Bool, true, false, false≢true, ◌||◌}
use mathlib.Core.List.{List}
use Prim.Native.Nat.{ℕ, zero, suc, ◌+◌, ◌^◌, ◌≤◌, ◌<◌}
use native.Mathlib.Nat.{pow-le-pow_right}
use native.Mathlib.Omega.{arith}
use borrow.Author.Tests.{eqb-true}
use lib.Dec.{lit<, lit≤, eqb}
use lib.IntN.{ℤ, pos, negsuc, nat_abs}
use lib.ListN.{length}
use lib.Signed.{mag}
use Rattle.chars.proofs.Cases.{by-test}
use Rattle.scanner.specs.declared.Class.TheVariants.{Whitespace, Numeric, Is}
use Rattle.scanner.specs.declared.Cursor.{Cursor}
use Rattle.scanner.specs.Scan.{eat_while, stands_at, part, run_at as scanned_at, next_run}
use Rattle.numbers.specs.Parse.{digits_from}
use Rattle.numbers.proofs.Whole.{digits-below}
use Rattle.numbers.specs.Number.{admits, run_value, run_of, run_at, parse_unsigned_int, behind_sign, with_sign, signed_at, signed_run, int_of, parse_int}
use Rattle.chars.specs.Signs.{signed}
use Rattle.numbers.specs.declared.Digits.{Digits}
use Rattle.numbers.specs.declared.Digits.TheVariants.{OneOrTwo, Two, Four}
use Rattle.numbers.specs.declared.NoNumber.{NoNumber}
use Rattle.numbers.specs.declared.NoNumber.TheVariants.{Panics, Wrong}
use Rattle.std.specs.Prelude.{Option, Some, None, Result, Ok, Err}
use Rattle.numbers.specs.declared.SignedRun.{SignedRun}

-- the largest length that is admitted
abbrev pub most : Digits → ℕ
most OneOrTwo = 2
most Two = 2
most Four = 4

pub at-most-four : (g : Digits) → most g ≤ 4
at-most-four OneOrTwo = lit≤ tt
at-most-four Two = lit≤ tt
at-most-four Four = lit≤ tt

pub most-four : (g : Digits) → 10 ^ most g ≤ 10 ^ 4
most-four g = pow-le-pow_right {n = 10} (lit< tt) (at-most-four g)

-- a length that is admitted is no larger
pub admitted-most : (g : Digits) (n : ℕ) → admits g n ≡ true → n ≤ most g
unfolding admits
admitted-most OneOrTwo n e = first (eqb n 1) (λ t. omega (arith, eqb-true n 1 t)) (λ t. omega (arith, eqb-true n 2 t)) e
  where
    first : (t : Bool) → (t ≡ true → n ≤ 2) → (eqb n 2 ≡ true → n ≤ 2) → t || eqb n 2 ≡ true → n ≤ 2
    first true f g e = f refl
    first false f g e = g e
admitted-most Two n e = omega (arith, eqb-true n 2 e)
admitted-most Four n e = omega (arith, eqb-true n 4 e)

-- and it is some
pub admitted-some : (g : Digits) (n : ℕ) → admits g n ≡ true → 0 < n
unfolding admits
admitted-some OneOrTwo zero e = absurd (false≢true e)
admitted-some Two zero e = absurd (false≢true e)
admitted-some Four zero e = absurd (false≢true e)
admitted-some g (suc n) e = omega arith

-- a number that was read is below n
pub data Below (n : ℕ) : Result (ℕ × Cursor) NoNumber → Type 0 where
  number : {v : ℕ} {c : Cursor} → v < n → Below n (Ok (v, c))
  wrong : {c : Cursor} → Below n (Err (Wrong c))
  panics : Below n (Err Panics)

value-below : (n end : ℕ) (r : Option ℕ) → ((v : ℕ) → r ≡ Some v → v < n) → Below n (run_value r end)
unfolding run_value
value-below n end (Some v) h = number (h v refl)
value-below n end None h = panics

run-below : (s : List ℕ) (start end : ℕ) (g : Digits) → Below (10 ^ most g) (run_of s start end g)
unfolding run_of
run-below s start end g =
    let num = part s start end in
    by-test (Below (10 ^ most g)) _
    (λ t. value-below (10 ^ most g) end (digits_from 9999 num 0) (λ v. digits-below 9999 num 0 (most g) (admitted-most g (length num) t)))
    (λ _. wrong)

of_number : {n v : ℕ} {c : Cursor} → Below n (Ok (v, c)) → v < n
of_number (number h) = h

pub unsigned-below : (s : List ℕ) (at : ℕ) (g : Digits) → Below (10 ^ most g) (parse_unsigned_int s at g)
unfolding parse_unsigned_int run_at
unsigned-below s at g =
    let a = eat_while Whitespace s at in
    run-below s a (eat_while Numeric s a) g

pub run-value : (s : List ℕ) (start end : ℕ) (g : Digits) {v : ℕ} {c : Cursor} → run_of s start end g ≡ Ok (v, c) → v < 10 ^ most g
run-value s start end g e = of_number (subst (Below (10 ^ most g)) e (run-below s start end g))

pub unsigned-value : (s : List ℕ) (at : ℕ) (g : Digits) {v : ℕ} {c : Cursor} → parse_unsigned_int s at g ≡ Ok (v, c) → v < 10 ^ most g
unfolding parse_unsigned_int run_at
unsigned-value s at g e =
    let a = eat_while Whitespace s at in
    run-value s a (eat_while Numeric s a) g e

-- with a sign: the magnitude is
pub data IntIn (n : ℕ) : Result (ℤ × Cursor) NoNumber → Type 0 where
  int : {z : ℤ} {c : Cursor} → nat_abs z < n → IntIn n (Ok (z, c))
  noint : {c : Cursor} → IntIn n (Err (Wrong c))
  panic : IntIn n (Err Panics)

pub abs-signed : (neg : Bool) (v : ℕ) → nat_abs (signed neg v) ≡ v
unfolding signed
abs-signed false v = refl
abs-signed true zero = refl
abs-signed true (suc v) = refl

signed-in : (n : ℕ) (neg : Bool) {p : Result (ℕ × Cursor) NoNumber} → Below n p → IntIn n (with_sign neg p)
unfolding with_sign
signed-in n neg (number {v} h) = int {z = signed neg v} (rw (abs-signed neg v) h)
signed-in n neg wrong = noint
signed-in n neg panics = panic

of-int : {n : ℕ} {z : ℤ} {c : Cursor} → IntIn n (Ok (z, c)) → nat_abs z < n
of-int (int h) = h

pub run-int-in : (s : List ℕ) (r : SignedRun) (g : Digits) → IntIn (10 ^ most g) (int_of s r g)
unfolding int_of
run-int-in s r g = signed-in (10 ^ most g) r.negative (run-below s r.numeric.start.0 r.numeric.end.0 g)

pub int-in : (s : List ℕ) (at : ℕ) (g : Digits) → IntIn (10 ^ most g) (parse_int s at g)
unfolding parse_int
int-in s at g = run-int-in s (signed_run s at) g

pub int-below : (s : List ℕ) (r : SignedRun) (g : Digits) {z : ℤ} {c : Cursor} → int_of s r g ≡ Ok (z, c) → nat_abs z < 10 ^ most g
int-below s r g e = of-int (subst (IntIn (10 ^ most g)) e (run-int-in s r g))

-- a number with a sign before it is the number behind the sign
pub int-behind : (s : List ℕ) (at : ℕ) (g : Digits) → parse_int s at g ≡ with_sign (stands_at (Is 0x2D) s (eat_while Whitespace s at)) (parse_unsigned_int s (behind_sign s (eat_while Whitespace s at)) g)
unfolding parse_int int_of signed_run signed_at next_run scanned_at parse_unsigned_int run_at
int-behind s at g = refl

-- the two magnitudes of a number of either sign
pub mag-abs : (z : ℤ) → mag z ≤ nat_abs z
mag-abs (pos n) = omega arith
mag-abs (negsuc n) = omega arith

pub abs_mag : (z : ℤ) → nat_abs z ≤ mag z + 1
abs_mag (pos n) = omega arith
abs_mag (negsuc n) = omega arith
