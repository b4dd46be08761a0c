use mathlib.Core.Path.{sym, ap}
use Prim.Native.Nat.{ℕ, ◌+◌}
use Rattle.days.specs.Table.{table}
use Rattle.days.proofs.Table.{four_years, last}
use borrow.Author.Rules.{rules}
use Rattle.days.proofs.century_3.Goals as goal

pub returns-in-0 : goal.returns-in-0
unfolding table
returns-in-0 c = ap (λ (n : ℕ). four_years (75 + n)) (sym c.in-0.is)

pub returns-in-1 : goal.returns-in-1
unfolding table
returns-in-1 c = ap (λ (n : ℕ). four_years (75 + n)) (sym c.in-1.is)

pub returns-in-2 : goal.returns-in-2
unfolding table
returns-in-2 c = ap (λ (n : ℕ). four_years (75 + n)) (sym c.in-2.is)

pub returns-in-3 : goal.returns-in-3
unfolding table
returns-in-3 c = ap (λ (n : ℕ). four_years (75 + n)) (sym c.in-3.is)

pub returns-in-4 : goal.returns-in-4
unfolding table
returns-in-4 c = ap (λ (n : ℕ). four_years (75 + n)) (sym c.in-4.is)

pub returns-in-5 : goal.returns-in-5
unfolding table
returns-in-5 c = ap (λ (n : ℕ). four_years (75 + n)) (sym c.in-5.is)

pub returns-in-6 : goal.returns-in-6
unfolding table
returns-in-6 c = ap (λ (n : ℕ). four_years (75 + n)) (sym c.in-6.is)

pub returns-in-7 : goal.returns-in-7
unfolding table
returns-in-7 c = ap (λ (n : ℕ). four_years (75 + n)) (sym c.in-7.is)

pub returns-in-8 : goal.returns-in-8
unfolding table
returns-in-8 c = ap (λ (n : ℕ). four_years (75 + n)) (sym c.in-8.is)

pub returns-in-9 : goal.returns-in-9
unfolding table
returns-in-9 c = ap (λ (n : ℕ). four_years (75 + n)) (sym c.in-9.is)

pub returns-in-10 : goal.returns-in-10
unfolding table
returns-in-10 c = ap (λ (n : ℕ). four_years (75 + n)) (sym c.in-10.is)

pub returns-in-11 : goal.returns-in-11
unfolding table
returns-in-11 c = ap (λ (n : ℕ). four_years (75 + n)) (sym c.in-11.is)

pub returns-in-12 : goal.returns-in-12
unfolding table
returns-in-12 c = ap (λ (n : ℕ). four_years (75 + n)) (sym c.in-12.is)

pub returns-in-13 : goal.returns-in-13
unfolding table
returns-in-13 c = ap (λ (n : ℕ). four_years (75 + n)) (sym c.in-13.is)

pub returns-in-14 : goal.returns-in-14
unfolding table
returns-in-14 c = ap (λ (n : ℕ). four_years (75 + n)) (sym c.in-14.is)

pub returns-in-15 : goal.returns-in-15
unfolding table
returns-in-15 c = ap (λ (n : ℕ). four_years (75 + n)) (sym c.in-15.is)

pub returns-in-16 : goal.returns-in-16
unfolding table
returns-in-16 c = ap (λ (n : ℕ). four_years (75 + n)) (sym c.in-16.is)

pub returns-in-17 : goal.returns-in-17
unfolding table
returns-in-17 c = ap (λ (n : ℕ). four_years (75 + n)) (sym c.in-17.is)

pub returns-in-18 : goal.returns-in-18
unfolding table
returns-in-18 c = ap (λ (n : ℕ). four_years (75 + n)) (sym c.in-18.is)

pub returns-in-19 : goal.returns-in-19
unfolding table
returns-in-19 c = ap (λ (n : ℕ). four_years (75 + n)) (sym c.in-19.is)

pub returns-in-20 : goal.returns-in-20
unfolding table
returns-in-20 c = ap (λ (n : ℕ). four_years (75 + n)) (sym c.in-20.is)

pub returns-in-21 : goal.returns-in-21
unfolding table
returns-in-21 c = ap (λ (n : ℕ). four_years (75 + n)) (sym c.in-21.is)

pub returns-in-22 : goal.returns-in-22
unfolding table
returns-in-22 c = ap (λ (n : ℕ). four_years (75 + n)) (sym c.in-22.is)

pub returns-in-23 : goal.returns-in-23
unfolding table
returns-in-23 c = ap (λ (n : ℕ). four_years (75 + n)) (sym c.in-23.is)

pub returns-in_default : goal.returns-in_default
unfolding table
returns-in_default c = ap (λ (n : ℕ). four_years (75 + n)) (last 24 c.args.q c.in_default.in_default-own.rest (search rules))
