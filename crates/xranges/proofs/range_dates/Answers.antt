use Rattle.scanner.proofs.Runs.{run-start, run_end}
use Rattle.xranges.proofs.Bounds.{tens}
use Rattle.numbers.proofs.Whole.{value_in}
use native.Mathlib.Omega.{arith}
use mathlib.Core.Path.{sym, ◌∙◌}
use Rattle.chars.specs.Pick.{pick}
use Rattle.xranges.specs.Range.{range_dates, range_from, digit_run, year_run, on_value}
use borrow.Author.Tests.{lt-ltb, le-ltb, eq-eqb, ne_eqb}
use borrow.Author.Rules.{rules}
use Rattle.xranges.proofs.range_dates.Goals as goal

pub returns-then-sure_digits-gt4 : goal.returns-then-sure_digits-gt4
unfolding range_dates range_from digit_run year_run on_value pick
returns-then-sure_digits-gt4 c =
    let e = c.next_run-run.ensures in
    simp (← run-start _ _ _ _ e, ← run_end _ _ _ _ e, ← c.len-sure_digits.ensures, lt-ltb _ _ c.if-sure_digits-gt4.true, ← c.panics.ensures)

pub returns-then-sure_digits-lt2 : goal.returns-then-sure_digits-lt2
unfolding range_dates range_from digit_run year_run on_value pick
returns-then-sure_digits-lt2 c =
    let e = c.next_run-run.ensures in
    simp (← run-start _ _ _ _ e, ← run_end _ _ _ _ e, ← c.len-sure_digits.ensures, le-ltb _ _ c.if-sure_digits-gt4.false, lt-ltb _ _ c.if-sure_digits-lt2.true, ← c.refuse_text.ensures)

pub returns-then-len-sure_digits : goal.returns-then-len-sure_digits
unfolding range_dates range_from digit_run year_run on_value pick
returns-then-len-sure_digits c =
    let e = c.next_run-run.ensures in
    simp (← run-start _ _ _ _ e, ← run_end _ _ _ _ e, ← c.len-sure_digits.ensures, le-ltb _ _ c.if-sure_digits-gt4.false, le-ltb _ _ c.if-sure_digits-lt2.false, ← c.eat_while-year_end.ensures, ← c.len.ensures, ne_eqb _ _ c.if-len-sure_digits.true, ← c.refuse_text-then-len-sure_digits.ensures)

pub behind_year-requires : goal.behind_year-requires
behind_year-requires c = let h = value_in 9999 _ (sym c.parse.ensures ∙ c.in-Some.is) in omega arith

pub returns-then-sure_digits-eq4 : goal.returns-then-sure_digits-eq4
unfolding range_dates range_from digit_run year_run on_value pick
returns-then-sure_digits-eq4 c =
    let e = c.next_run-run.ensures in
    simp (← run-start _ _ _ _ e, ← run_end _ _ _ _ e, ← c.len-sure_digits.ensures, le-ltb _ _ c.if-sure_digits-gt4.false, le-ltb _ _ c.if-sure_digits-lt2.false, ← c.eat_while-year_end.ensures, ← c.len.ensures, eq-eqb _ _ c.if-len-sure_digits.false, ← c.from.ensures, ← c.parse.ensures, c.in-Some.is, eq-eqb _ _ c.if-sure_digits-eq4.true, ← c.behind_year.ensures)

pub years-requires : goal.years-requires
years-requires c = let h = value_in 9999 _ (sym c.parse.ensures ∙ c.in-Some.is) in let g = tens c.len-sure_digits.result in let e = c.variable.ensures in (omega arith, (omega arith, omega arith))

pub returns-else-sure_digits-eq4 : goal.returns-else-sure_digits-eq4
unfolding range_dates range_from digit_run year_run on_value pick
returns-else-sure_digits-eq4 c =
    let e = c.next_run-run.ensures in
    simp (← run-start _ _ _ _ e, ← run_end _ _ _ _ e, ← c.len-sure_digits.ensures, le-ltb _ _ c.if-sure_digits-gt4.false, le-ltb _ _ c.if-sure_digits-lt2.false, ← c.eat_while-year_end.ensures, ← c.len.ensures, eq-eqb _ _ c.if-len-sure_digits.false, ← c.from.ensures, ← c.parse.ensures, c.in-Some.is, ne_eqb _ _ c.if-sure_digits-eq4.false, ← c.variable.ensures, ← c.years.ensures)

pub returns-in-None : goal.returns-in-None
unfolding range_dates range_from digit_run year_run on_value pick
returns-in-None c =
    let e = c.next_run-run.ensures in
    simp (← run-start _ _ _ _ e, ← run_end _ _ _ _ e, ← c.len-sure_digits.ensures, le-ltb _ _ c.if-sure_digits-gt4.false, le-ltb _ _ c.if-sure_digits-lt2.false, ← c.eat_while-year_end.ensures, ← c.len.ensures, eq-eqb _ _ c.if-len-sure_digits.false, ← c.from.ensures, ← c.parse.ensures, c.in-None.is, ← c.panics-in-None.ensures)
