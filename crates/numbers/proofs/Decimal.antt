-- Digits denote their number: what is read of them is the sum of each digit times its power of ten, and a text is read as a number exactly
-- if it spells one that is not above the largest.
-- Assumes nothing.
use mathlib.Core.Path.{◌≡◌, refl, sym, ap, subst, ◌∙◌}
use mathlib.Core.Bool.{true}
use mathlib.Core.List.{List, [], ◌∷◌, ◌++◌}
use Prim.Native.Nat.{ℕ, suc, ◌+◌, ◌*◌, ◌^◌, ◌≤◌, ◌<◌}
use native.Mathlib.Nat.{add-mul, mul_assoc, mul-le-mul_right, pow-succ', le-mul_of_pos_right, one-le-pow}
use native.Mathlib.Omega.{arith}
use borrow.Author.Tests.{lt-ltb, le-ltb, ltb-true, ltb-false, leb-true, le-leb, lt-leb, eqb-true, ne_eqb}
use lib.Dec.{ltb, leb, eqb, lit<}
use lib.Pow.{pow-add}
use lib.ListN.{length, drop, length-append}
use Rattle.chars.specs.Ascii.{digit_of}
use Rattle.chars.specs.Classes.{within, is_ascii_digit}
use Rattle.chars.specs.Pick.{pick}
use Rattle.chars.proofs.Cases.{by-test, of_test, and-true}
use Rattle.scanner.specs.declared.Class.TheVariants.{Numeric, AsciiDigit}
use Rattle.scanner.specs.declared.Cursor.{Cursor}
use Rattle.scanner.specs.Scan.{eat_while, part}
use Rattle.scanner.proofs.Laws.{at_least}
use Rattle.scanner.proofs.Digits.{below-digits}
use Rattle.scanner.proofs.Parts.{part-short, part_cut}
use Rattle.scanner.proofs.Front.{From, front-stop}
use Rattle.numbers.specs.declared.Digits.{Digits}
use Rattle.numbers.specs.declared.NoNumber.{NoNumber}
use Rattle.numbers.specs.declared.NoNumber.TheVariants.{Panics, Wrong}
use Rattle.std.specs.Prelude.{Option, Some, None, Result, Ok, Err}
use Rattle.numbers.specs.Parse.{whole_value, digits_from, parse, AllDigits, decimal_value, Spells, digits, with_plus}
use Rattle.numbers.specs.Number.{run_value, run_of, run_at}
use Rattle.numbers.proofs.Whole.{ten, value_in}

-- a byte that says a digit is one, and the other way round
is_digit : (b : ℕ) → digit_of b ≤ 9 → is_ascii_digit b ≡ true
unfolding digit_of is_ascii_digit within pick
is_digit b h =
    of_test (ltb b 0x30) (λ t. let z : 10 ≤ 9 = rw t at h in absurd (omega arith))
    (λ t. of_test (ltb b 0x3A)
    (λ u. rw (le-leb 0x30 b (ltb-false b 0x30 t), le-leb b 0x39 (omega (arith, ltb-true b 0x3A u))))
    (λ u. let z : 10 ≤ 9 = rw (t, u) at h in absurd (omega arith)))

-- the bytes of digits
in-digits : (b : ℕ) → is_ascii_digit b ≡ true → (0x30 ≤ b) × (b ≤ 0x39)
unfolding is_ascii_digit within
in-digits b e = let p = and-true (leb 0x30 b) (leb b 0x39) e in (leb-true 0x30 b p.0, leb-true b 0x39 p.1)

says-digit : (b : ℕ) → is_ascii_digit b ≡ true → digit_of b ≤ 9
unfolding digit_of pick
says-digit b e = let p = in-digits b e in rw (le-ltb b 0x30 p.0, lt-ltb b 0x3A (omega (arith, p.1))) (omega (arith, p.1))

-- a digit behind those read so far, before the others
shifted : (acc d n : ℕ) → (acc * 10 + d) * 10 ^ n ≡ acc * 10 ^ suc n + d * 10 ^ n
shifted acc d n = add-mul (acc * 10) d (10 ^ n) ∙ ap (λ (m : ℕ). m + d * 10 ^ n) (ten acc n)

-- digits that were read are digits, and their number is the one that they denote, behind those before them
data Read (acc : ℕ) (t : List ℕ) : Option ℕ → Type 0 where
  read : {v : ℕ} → AllDigits t → v ≡ acc * 10 ^ length t + decimal_value t → Read acc t (Some v)
  unread : Read acc t None

read_more : (acc b : ℕ) (t : List ℕ) {r : Option ℕ} → digit_of b ≤ 9 → Read (acc * 10 + digit_of b) t r → Read acc (b ∷ t) r
unfolding decimal_value
read_more acc b t h (read {v} a e) = read {v = v} (is_digit b h, a) (omega (arith, e, shifted acc (digit_of b) (length t)))
read_more acc b t h unread = unread

read_none : (acc : ℕ) → Read acc [] (Some acc)
unfolding decimal_value
read_none acc = read {v = acc} tt (omega arith)

reading : (top acc : ℕ) (t : List ℕ) → Read acc t (whole_value top acc t)
unfolding whole_value
reading top acc [] = read_none acc
reading top acc (b ∷ t) =
    by-test (Read acc (b ∷ t)) _ (λ _. unread)
    (λ e. by-test (Read acc (b ∷ t)) _ (λ _. unread)
    (λ _. read_more acc b t (ltb-false 9 (digit_of b) e) (reading top (acc * 10 + digit_of b) t)))

of-read : {acc v : ℕ} {t : List ℕ} → Read acc t (Some v) → AllDigits t × (v ≡ acc * 10 ^ length t + decimal_value t)
of-read (read a e) = (a, e)

-- what is read of digits is what they denote
pub denoted : (top : ℕ) (t : List ℕ) {v : ℕ} → whole_value top 0 t ≡ Some v → AllDigits t × (v ≡ decimal_value t)
denoted top t e = let p = of-read (subst (Read 0 t) e (reading top 0 t)) in (p.0, omega (arith, p.1))

-- and digits are read where their number is not above the largest
taking : (top acc : ℕ) (t : List ℕ) → AllDigits t → acc * 10 ^ length t + decimal_value t ≤ top → whole_value top acc t ≡ Some (acc * 10 ^ length t + decimal_value t)
unfolding whole_value decimal_value pick
taking top acc [] a h = ap Some (omega arith)
taking top acc (b ∷ t) a h =
    let d = says-digit b a.0 in
    let s = shifted acc (digit_of b) (length t) in
    let g = le-mul_of_pos_right (acc * 10 + digit_of b) (one-le-pow (length t) 10 (lit< tt)) in
    rw (le-ltb 9 (digit_of b) d, le-ltb top (acc * 10 + digit_of b) (omega arith))
    (taking top (acc * 10 + digit_of b) t a.1 (omega arith) ∙ ap Some (omega arith))

pub taken : (top : ℕ) (t : List ℕ) → AllDigits t → decimal_value t ≤ top → whole_value top 0 t ≡ Some (decimal_value t)
taken top t a h = taking top 0 t a (omega arith) ∙ ap Some (omega arith)

-- digits behind others: those before them count by the power of ten that their number says
pub decimal-append : (t u : List ℕ) → decimal_value (t ++ u) ≡ decimal_value t * 10 ^ length u + decimal_value u
unfolding decimal_value
decimal-append [] u = omega arith
decimal-append (c ∷ t) u =
    rw (length-append t u, pow-add 10 (length t) (length u), decimal-append t u, add-mul (digit_of c * 10 ^ length t) (decimal_value t) (10 ^ length u))
    (omega (arith, mul_assoc (digit_of c) (10 ^ length t) (10 ^ length u)))

-- the last digit counts once, those before it ten times
pub decimal-last : (t : List ℕ) (b : ℕ) → decimal_value (t ++ b ∷ []) ≡ decimal_value t * 10 + digit_of b
unfolding decimal_value
decimal-last t b = decimal-append t (b ∷ []) ∙ omega arith

-- digits behind digits
pub digits_append : (t u : List ℕ) → AllDigits t → AllDigits u → AllDigits (t ++ u)
digits_append [] u a b = b
digits_append (c ∷ t) u a b = (a.0, digits_append t u a.1 b)

-- a number has no more digits than denote it
pub decimal-below : (t : List ℕ) → AllDigits t → decimal_value t < 10 ^ length t
unfolding decimal_value
decimal-below [] a = lit< tt
decimal-below (b ∷ t) a = omega (arith, pow-succ' 10 (length t), mul-le-mul_right (10 ^ length t) (says-digit b a.0), decimal-below t a.1)

-- a text that was read spells the number
data Spelt (s : List ℕ) : Option ℕ → Type 0 where
  spelt : {v : ℕ} → Spells s v → Spelt s (Some v)
  unspelt : Spelt s None

from-read : (b : ℕ) (t : List ℕ) {r : Option ℕ} → Read 0 (b ∷ t) r → Spelt (b ∷ t) r
from-read b t (read {v} a e) = let z : decimal_value (b ∷ t) ≡ v = omega arith in subst (λ (n : ℕ). Spelt (b ∷ t) (Some n)) z (spelt (digits a))
from-read b t unread = unspelt

plus-read : (b : ℕ) (t : List ℕ) {r : Option ℕ} → Read 0 (b ∷ t) r → Spelt (0x2B ∷ b ∷ t) r
plus-read b t (read {v} a e) = let z : decimal_value (b ∷ t) ≡ v = omega arith in subst (λ (n : ℕ). Spelt (0x2B ∷ b ∷ t) (Some n)) z (spelt (with_plus a))
plus-read b t unread = unspelt

parse-spelt : (top : ℕ) (s : List ℕ) → Spelt s (parse top s)
unfolding parse digits_from pick
parse-spelt top [] = unspelt
parse-spelt top (b ∷ []) =
    by-test (Spelt (b ∷ [])) (eqb b 0x2B) (λ _. unspelt) (λ _. from-read b [] (reading top 0 (b ∷ [])))
parse-spelt top (b ∷ c ∷ t) =
    by-test (Spelt (b ∷ c ∷ t)) (eqb b 0x2B)
    (λ e. rw (lt-leb (suc (suc (length t))) 1 (omega arith))
    (subst (λ (n : ℕ). Spelt (n ∷ c ∷ t) (whole_value top 0 (c ∷ t))) (sym (eqb-true b 0x2B e)) (plus-read c t (reading top 0 (c ∷ t)))))
    (λ _. rw (lt-leb (suc (suc (length t))) 0 (omega arith)) (from-read b (c ∷ t) (reading top 0 (b ∷ c ∷ t))))

of-spelt : {s : List ℕ} {v : ℕ} → Spelt s (Some v) → Spells s v
of-spelt (spelt p) = p

-- a text is read as a number exactly if it spells it, and it is not above the largest
pub parse-spells : (top : ℕ) (s : List ℕ) {v : ℕ} → parse top s ≡ Some v → Spells s v × (v ≤ top)
parse-spells top s e = (of-spelt (subst (Spelt s) e (parse-spelt top s)), value_in top s e)

pub spelt-parses : (top : ℕ) {s : List ℕ} {v : ℕ} → Spells s v → v ≤ top → parse top s ≡ Some v
unfolding parse digits_from pick
spelt-parses top (digits {b} {t} a) h =
    rw (ne_eqb b 0x2B (λ (e : b ≡ 0x2B). omega (arith, (in-digits b a.0).0)), lt-leb (suc (length t)) 0 (omega arith)) (taken top (b ∷ t) a h)
spelt-parses top (with_plus {b} {t} a) h = rw (lt-leb (suc (suc (length t))) 1 (omega arith)) (taken top (b ∷ t) a h)

-- ASCII digits that were eaten and are read as a number are digits alone, and no plus, and denote it
module _ (s : List ℕ) (at : ℕ) where
  abbrev eaten : List ℕ
  eaten = part s at (eat_while AsciiDigit s at)

  unsigned : {w : List ℕ} {v : ℕ} → Spells w v → eaten ≡ w → AllDigits w × (v ≡ decimal_value w)
  unsigned (digits a) e = (a, refl)
  unsigned (with_plus {b} {t} a) e =
      let f : From s at (0x2B ∷ ((b ∷ t) ++ drop (eat_while AsciiDigit s at) s)) = record { is = part_cut s at (eat_while AsciiDigit s at) (at_least AsciiDigit s at) ∙ ap (λ (w : List ℕ). w ++ drop (eat_while AsciiDigit s at) s) e } in
      absurd (omega (arith, ap length e, part-short s at (eat_while AsciiDigit s at), front-stop f AsciiDigit (lit< tt) (below-digits 0x2B (lit< tt))))

  pub eaten-denoted : (top : ℕ) {v : ℕ} → parse top eaten ≡ Some v → AllDigits eaten × (v ≡ decimal_value eaten)
  eaten-denoted top e = unsigned (parse-spells top eaten e).0 refl

-- a run that was read is digits, and its number is the one that they denote
data RunRead (num : List ℕ) : Result (ℕ × Cursor) NoNumber → Type 0 where
  run_number : {v : ℕ} {c : Cursor} → AllDigits num → v ≡ decimal_value num → RunRead num (Ok (v, c))
  run_wrong : {c : Cursor} → RunRead num (Err (Wrong c))
  run_panics : RunRead num (Err Panics)

value_read : (num : List ℕ) (end : ℕ) {r : Option ℕ} → Read 0 num r → RunRead num (run_value r end)
unfolding run_value
value_read num end (read {v} a e) = run_number {v = v} a (omega arith)
value_read num end unread = run_panics

from-reading : (top : ℕ) (s : List ℕ) → Read 0 s (digits_from top s 0)
unfolding digits_from
from-reading top s = by-test (Read 0 s) _ (λ _. unread) (λ _. reading top 0 s)

run-read : (s : List ℕ) (start end : ℕ) (g : Digits) → RunRead (part s start end) (run_of s start end g)
unfolding run_of
run-read s start end g = by-test (RunRead (part s start end)) _ (λ _. value_read (part s start end) end (from-reading 9999 (part s start end))) (λ _. run_wrong)

of-run : {num : List ℕ} {v : ℕ} {c : Cursor} → RunRead num (Ok (v, c)) → AllDigits num × (v ≡ decimal_value num)
of-run (run_number a e) = (a, e)

pub run-denoted : (s : List ℕ) (at : ℕ) (g : Digits) {v : ℕ} {c : Cursor} → run_at s at g ≡ Ok (v, c) → AllDigits (part s at (eat_while Numeric s at)) × (v ≡ decimal_value (part s at (eat_while Numeric s at)))
unfolding run_at
run-denoted s at g e =
    let num = part s at (eat_while Numeric s at) in
    of-run (subst (RunRead num) e (run-read s at (eat_while Numeric s at) g))
