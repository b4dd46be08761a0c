-- The month lengths by the code's arithmetic are those of the table: one test over the twelve months.
-- Assumes nothing.
use mathlib.Core.Path.{◌≡◌, sym}
use mathlib.Core.Bool.{Bool, true, false}
use Prim.Native.Nat.{ℕ, ◌+◌, ◌-◌, ◌%◌, ◌≤◌, ◌<◌}
use native.Mathlib.Omega.{arith}
use native.Mathlib.Decide.{ℕ_discrete, dec_lt}
use borrow.Author.Tests.{ne_eqb, le-ltb, lt-ltb}
use lib.Dec.{eqb, ltb}
use lib.IntN.{ℤ}
use lib.ListN.{get_or, get_or-eq_default}
use Rattle.chars.specs.Pick.{pick}
use Rattle.chars.proofs.Below.{agree}
use Rattle.dates.specs.Calendar.{leap_year, february, month_lengths, month_length}

-- the length by arithmetic
by_rule : Bool → ℕ → ℕ
by_rule leap m = pick (eqb m 1) (february leap) (pick (ltb m 7) (31 - m % 2) (30 + m % 2))

rule : (leap : Bool) (m : ℕ) → m < 12 → by_rule leap m ≡ get_or (month_lengths leap) m 0
unfolding by_rule month_lengths february pick
rule true m h = agree (by_rule true) (λ (m : ℕ). get_or (month_lengths true) m 0) 12 tt m h
rule false m h = agree (by_rule false) (λ (m : ℕ). get_or (month_lengths false) m 0) 12 tt m h

february-least : (leap : Bool) → 28 ≤ february leap
unfolding february
february-least true = omega arith
february-least false = omega arith

module _ (m : ℕ) (y : ℤ) where
  pub second : m ≡ 1 → month_length m y ≡ february (leap_year y)
  unfolding month_length month_lengths
  second e = rw e

  pub low : (m ≡ 1 → ⊥) → m < 7 → 31 - m % 2 ≡ month_length m y
  unfolding by_rule month_length pick
  low n h = rw (ne_eqb m 1 n, lt-ltb m 7 h) at (rule (leap_year y) m (omega arith))

  pub high : 7 ≤ m → m < 12 → 30 + m % 2 ≡ month_length m y
  unfolding by_rule month_length pick
  high l h = rw (ne_eqb m 1 (λ (e : m ≡ 1). omega arith), le-ltb m 7 l) at (rule (leap_year y) m h)

  pub beyond : 12 ≤ m → 0 ≡ month_length m y
  unfolding month_length month_lengths
  beyond h = sym (get_or-eq_default (month_lengths (leap_year y)) 0 h)

  -- no month is shorter than 28 days
  pub month-least : m < 12 → 28 ≤ month_length m y
  month-least h =
      elim (ℕ_discrete m 1) [
        | yes e ↦ rw (second e) (february-least (leap_year y))
        | no n ↦ elim (dec_lt m 7) [ yes l ↦ omega (arith, low n l) | no l ↦ omega (arith, high (omega (arith, l)) h) ]
      ]

  -- a month has a first day
  pub some-day : m < 12 → 0 < month_length m y
  some-day h = omega (arith, month-least h)
