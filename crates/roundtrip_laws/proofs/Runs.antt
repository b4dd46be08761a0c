-- Runs of characters in a text that is known, and the number that a run of digits is.
-- Assumes nothing.
use mathlib.Core.Path.{◌≡◌, sym, ◌∙◌}
use mathlib.Core.Bool.{false}
use mathlib.Core.List.{List, [], ◌∷◌, ◌++◌}
use Prim.Native.Nat.{ℕ, ◌+◌, ◌≤◌, ◌<◌}
use native.Mathlib.Nat.{add-zero}
use native.Mathlib.Omega.{arith}
use borrow.Author.Tests.{ne_eqb, lt-leb}
use lib.ListN.{length}
use Rattle.chars.specs.Pick.{pick}
use Rattle.scanner.specs.declared.Class.{Class}
use Rattle.scanner.specs.declared.Class.TheVariants.{AsciiDigit}
use Rattle.scanner.specs.Class.{in_class}
use Rattle.scanner.specs.Scan.{eat_while, part}
use Rattle.scanner.proofs.Front.{From, front_rest, front-go, front-stop, front-end}
use Rattle.scanner.proofs.Digits.{digit-ascii}
use Rattle.numbers.proofs.Reading.{bytes, value, AreDigits, digits-part, value-is}
use Rattle.std.specs.Prelude.{Some}
use Rattle.numbers.specs.Parse.{digits_from, parse}

-- what may stand behind a run of a class: nothing, or an ASCII character that is not of it
pub data Stops (k : Class) : List ℕ → Type 0 where
  none : Stops k []
  other : {c : ℕ} {t : List ℕ} → c < 128 → in_class k c ≡ false → Stops k (c ∷ t)

pub run_none : {k : Class} {s t : List ℕ} {i : ℕ} → Stops k t → From s i t → eat_while k s i ≡ i
run_none {k} none f = front-end f k
run_none {k} (other l n) f = front-stop f k l n

-- a run of digits
pub ascii_run : (ds : List ℕ) {s t : List ℕ} {i : ℕ} → AreDigits ds → Stops AsciiDigit t → From s i (bytes ds ++ t) → eat_while AsciiDigit s i ≡ i + length ds
ascii_run [] {s} {t} {i} h b f = run_none b f ∙ sym (add-zero i)
ascii_run (d ∷ ds) {s} {t} {i} h b f = front-go f AsciiDigit (omega (arith, h.0)) (digit-ascii (48 + d) (omega arith) (omega (arith, h.0))) ∙ ascii_run ds h.1 b (front_rest f) ∙ omega arith

pub ascii-part : (ds t : List ℕ) {s : List ℕ} {i : ℕ} → From s i (bytes ds ++ t) → part s i (i + length ds) ≡ bytes ds
ascii-part = digits-part

-- the number that they are
pub parse-is : (d : ℕ) (ds : List ℕ) (top : ℕ) → AreDigits (d ∷ ds) → value 0 (d ∷ ds) ≤ top → parse top (bytes (d ∷ ds)) ≡ Some (value 0 (d ∷ ds))
unfolding parse digits_from pick
parse-is d ds top h l =
    rw (ne_eqb (48 + d) 0x2B (λ (e : 48 + d ≡ 0x2B). omega arith), lt-leb (length (bytes (d ∷ ds))) 0 (omega arith)) (value-is (d ∷ ds) top 0 h l)
