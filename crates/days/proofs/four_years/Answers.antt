use mathlib.Core.Path.{◌≡◌, ap, ◌∙◌}
use native.Mathlib.Omega.{arith}
use Prim.Native.Nat.{ℕ, ◌+◌, ◌/◌, ◌%◌}
use Rattle.days.proofs.Table.{four_years, last}
use Rattle.days.proofs.four_years.Goals as goal

-- what a century has is what is asked for
same : (m q : ℕ) → m ≡ q → four_years m ≡ four_years q
same m q e = ap four_years e

pub returns-in-0 : goal.returns-in-0
returns-in-0 c = let q = c.args.q in c.century_0.ensures ∙ same (q % 25) q (omega (arith, c.in-0.is))

pub returns-in-1 : goal.returns-in-1
returns-in-1 c = let q = c.args.q in c.century_1.ensures ∙ same (25 + q % 25) q (omega (arith, c.in-1.is))

pub returns-in-2 : goal.returns-in-2
returns-in-2 c = let q = c.args.q in c.century_2.ensures ∙ same (50 + q % 25) q (omega (arith, c.in-2.is))

pub returns-in_default : goal.returns-in_default
returns-in_default c = let q = c.args.q in c.century_3.ensures ∙ same (75 + q % 25) q (omega (arith, last 3 (q / 25) c.in_default.in_default-own.rest (omega arith)))
