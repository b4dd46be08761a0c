-- What was read lies in its range.
-- Assumes nothing.
use mathlib.Core.List.{List}
use Prim.Native.Nat.{ℕ, ◌+◌, ◌-◌, ◌≤◌, ◌<◌}
use native.Mathlib.Omega.{arith}
use borrow.Author.Tests.{ltb-false}
use lib.IntN.{ℤ, pos, nat_abs, ◌+ℤ◌}
use Rattle.chars.proofs.Cases.{by-test}
use Rattle.scanner.specs.declared.Cursor.{Cursor}
use Rattle.refusals.specs.declared.Kind.{Kind}
use Rattle.refusals.specs.declared.TextRefusal.{TextRefusal}
use Rattle.numbers.specs.Number.{parse_unsigned_int}
use Rattle.numbers.specs.declared.Digits.TheVariants.{OneOrTwo}
use Rattle.numbers.specs.declared.NoNumber.{NoNumber}
use Rattle.numbers.specs.declared.NoNumber.TheVariants.{Panics, Wrong}
use Rattle.std.specs.Prelude.{Result, Ok, Err}
use Rattle.numbers.proofs.Sums.{sum-mag}
use Rattle.numbers.proofs.Laws.{mag-abs, abs_mag}
use Rattle.points.specs.Step.{stored_part, part_at}
use Rattle.points.specs.Point.{windowed}

-- a number that was read, counted from the lowest, does not pass the highest
pub data PartIn (low high : ℕ) : Result (ℕ × Cursor) TextRefusal → Type 0 where
  part : {v : ℕ} {c : Cursor} → v + low ≤ high → PartIn low high (Ok (v, c))
  nopart : {e : TextRefusal} → PartIn low high (Err e)

stored-in : (p : Result (ℕ × Cursor) NoNumber) (at low high : ℕ) (k : Kind) → PartIn low high (stored_part p at low high k)
unfolding stored_part
stored-in (Ok (v, c)) at low high k =
    by-test (PartIn low high) _ (λ _. nopart)
    (λ a. by-test (PartIn low high) _ (λ _. nopart) (λ b. part {v = v - low} (omega (arith, ltb-false v low a, ltb-false high v b))))
stored-in (Err (Wrong c)) at low high k = nopart
stored-in (Err Panics) at low high k = nopart

pub part_in : (s : List ℕ) (at low high : ℕ) (k : Kind) → PartIn low high (part_at s at low high k)
unfolding part_at
part_in s at low high k = stored-in (parse_unsigned_int s at OneOrTwo) at low high k

-- a windowed year has four digits
pub windowed-in : (z : ℤ) → nat_abs z < 100 → nat_abs (windowed z) < 10000
unfolding windowed
windowed-in z h =
    by-test (λ (y : ℤ). nat_abs y < 10000) _ (λ _. omega (arith, mag-abs z, abs_mag (z +ℤ pos 2000), sum-mag z (pos 2000)))
    (λ _. omega (arith, mag-abs z, abs_mag (z +ℤ pos 1900), sum-mag z (pos 1900)))
