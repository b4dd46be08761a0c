-- `chars::char_len` meets its contract: the leading zeros of the inverted byte are its leading ones, and those say the length.
-- Assumes nothing.
use mathlib.Core.Path.{◌≡◌, sym, ap, ◌∙◌}
use Prim.Native.Nat.{ℕ, ◌-◌, ◌≤◌, ◌<◌}
use Rattle.chars.specs.Pick.{pick}
use lib.Count.{count_leading_zeros}
use native.Mathlib.Omega.{arith}
use native.Mathlib.Decide.{dec_lt}
use borrow.Author.Tests.{ne_eqb, le-leb, lt-leb}
use Rattle.chars.specs.Utf8.{len_of, len_by_ones}
use Rattle.chars.proofs.Ones.{len-by-ones, inverted}
use Rattle.chars.proofs.char_len.Goals as goal

law : (b : ℕ) → b < 256 → len_by_ones (count_leading_zeros 8 (255 - b)) ≡ len_of b
law b h = ap len_by_ones (inverted b h) ∙ sym (len-by-ones b h)

above : (n : ℕ) → 2 ≤ n → (n ≡ 2 → ⊥) → (n ≡ 3 → ⊥) → (n ≡ 4 → ⊥) → 4 < n
above n h b c d = omega arith

-- any other count starts no character
other : (n : ℕ) → (n ≡ 0 → ⊥) → (n ≡ 2 → ⊥) → (n ≡ 3 → ⊥) → (n ≡ 4 → ⊥) → len_by_ones n ≡ 0
unfolding len_by_ones pick
other n a b c d =
    elim (dec_lt n 2) [
      | yes h ↦ rw (ne_eqb n 0 a, lt-leb 2 n h)
      | no h ↦ rw (ne_eqb n 0 a, le-leb 2 n (omega (arith, h)), lt-leb n 4 (above n (omega (arith, h)) b c d))
    ]

pub returns-in-0 : goal.returns-in-0
unfolding len_by_ones pick
returns-in-0 c = rw c.in-0.is at (law c.args.first (omega arith))

pub returns-in-2 : goal.returns-in-2
unfolding len_by_ones pick
returns-in-2 c = rw c.in-2.is at (law c.args.first (omega arith))

pub returns-in-3 : goal.returns-in-3
unfolding len_by_ones pick
returns-in-3 c = rw c.in-3.is at (law c.args.first (omega arith))

pub returns-in-4 : goal.returns-in-4
unfolding len_by_ones pick
returns-in-4 c = rw c.in-4.is at (law c.args.first (omega arith))

pub returns-in_default : goal.returns-in_default
returns-in_default c =
    let r = c.in_default.in_default-own.rest in
    sym (other _ r.0.0.0.1 r.0.0.1 r.0.1 r.1) ∙ law c.args.first (omega arith)
