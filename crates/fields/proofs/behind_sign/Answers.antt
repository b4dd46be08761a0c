use Rattle.scanner.proofs.Runs.{run-start, run_end}
use Rattle.numbers.proofs.Whole.{value_in}
use native.Mathlib.Omega.{arith}
use mathlib.Core.Path.{sym, ◌∙◌}
use Rattle.chars.specs.Pick.{pick}
use Rattle.fields.specs.Year.{behind_sign, year_from, year_digits, on_number}
use borrow.Author.Tests.{lt-ltb, le-ltb, eq-eqb, ne_eqb}
use borrow.Author.Rules.{rules}
use Rattle.fields.proofs.behind_sign.Goals as goal

pub returns-then-digits-eq0 : goal.returns-then-digits-eq0
unfolding behind_sign year_from year_digits on_number pick
returns-then-digits-eq0 c =
    let e = c.next_run-run.ensures in
    simp (← run-start _ _ _ _ e, ← run_end _ _ _ _ e, ← c.from-digits.ensures, eq-eqb _ _ c.if-digits-eq0.true, ← c.refuse_text.ensures)

pub returns-then-digits-gt4 : goal.returns-then-digits-gt4
unfolding behind_sign year_from year_digits on_number pick
returns-then-digits-gt4 c =
    let e = c.next_run-run.ensures in
    simp (← run-start _ _ _ _ e, ← run_end _ _ _ _ e, ← c.from-digits.ensures, ne_eqb _ _ c.if-digits-eq0.false, lt-ltb _ _ c.if-digits-gt4.true, ← c.refuse_text-then-digits-gt4.ensures)

pub returns-then-start-c : goal.returns-then-start-c
unfolding behind_sign year_from year_digits on_number pick
returns-then-start-c c =
    let e = c.next_run-run.ensures in
    simp (← run-start _ _ _ _ e, ← run_end _ _ _ _ e, ← c.from-digits.ensures, ne_eqb _ _ c.if-digits-eq0.false, le-ltb _ _ c.if-digits-gt4.false, ne_eqb _ _ c.if-start-c.true, ← c.panics.ensures)

pub behind_digits-requires : goal.behind_digits-requires
behind_digits-requires c = let h = value_in 9999 _ (sym c.parse.ensures ∙ c.in-Some.is) in omega arith

pub returns-in-Some : goal.returns-in-Some
unfolding behind_sign year_from year_digits on_number pick
returns-in-Some c =
    let e = c.next_run-run.ensures in
    simp (← run-start _ _ _ _ e, ← run_end _ _ _ _ e, ← c.from-digits.ensures, ne_eqb _ _ c.if-digits-eq0.false, le-ltb _ _ c.if-digits-gt4.false, eq-eqb _ _ c.if-start-c.false, ← c.parse.ensures, c.in-Some.is, ← c.behind_digits.ensures)

pub returns-in-None : goal.returns-in-None
unfolding behind_sign year_from year_digits on_number pick
returns-in-None c =
    let e = c.next_run-run.ensures in
    simp (← run-start _ _ _ _ e, ← run_end _ _ _ _ e, ← c.from-digits.ensures, ne_eqb _ _ c.if-digits-eq0.false, le-ltb _ _ c.if-digits-gt4.false, eq-eqb _ _ c.if-start-c.false, ← c.parse.ensures, c.in-None.is, ← c.panics-in-None.ensures)
