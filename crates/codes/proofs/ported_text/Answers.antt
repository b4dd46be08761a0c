use borrow.Author.Tests.{le-leb, lt-leb, eq-eqb, ne_eqb}
use Rattle.codes.specs.Ported.{ported}
use Rattle.refusals.specs.Refusal.{refusal}
use Rattle.chars.specs.Pick.{pick}
use native.Mathlib.Omega.{arith}
use Rattle.codes.proofs.Half.{slash-below}
use borrow.Author.Rules.{rules}
use Rattle.codes.proofs.ported_text.Goals as goal

pub returns-then-n-eq0 : goal.returns-then-n-eq0
unfolding ported refusal pick
returns-then-n-eq0 c =
    simp (eq-eqb _ _ c.if-n-eq0.true, c.refused.ensures)

pub returns-then-s-ge58 : goal.returns-then-s-ge58
unfolding ported refusal pick
returns-then-s-ge58 c =
    simp (ne_eqb _ _ c.if-n-eq0.false, le-leb _ _ c.if-s-ge58.true, ← c.words_refused.ensures)

pub returns-then-n-eq2 : goal.returns-then-n-eq2
unfolding ported refusal pick
returns-then-n-eq2 c =
    simp (ne_eqb _ _ c.if-n-eq0.false, lt-leb _ _ c.if-s-ge58.false, eq-eqb _ _ c.if-n-eq2.true, ← c.short_year.ensures)

pub returns-then-n-eq4 : goal.returns-then-n-eq4
unfolding ported refusal pick
returns-then-n-eq4 c =
    simp (ne_eqb _ _ c.if-n-eq0.false, lt-leb _ _ c.if-s-ge58.false, ne_eqb _ _ c.if-n-eq2.false, eq-eqb _ _ c.if-n-eq4.true, ← c.years_of.ensures)

pub returns-then-n-eq7 : goal.returns-then-n-eq7
unfolding ported refusal pick
returns-then-n-eq7 c =
    simp (ne_eqb _ _ c.if-n-eq0.false, lt-leb _ _ c.if-s-ge58.false, ne_eqb _ _ c.if-n-eq2.false, ne_eqb _ _ c.if-n-eq4.false, eq-eqb _ _ c.if-n-eq7.true, ← c.months_of.ensures)

pub returns-then-n-eq10 : goal.returns-then-n-eq10
unfolding ported refusal pick
returns-then-n-eq10 c =
    simp (ne_eqb _ _ c.if-n-eq0.false, lt-leb _ _ c.if-s-ge58.false, ne_eqb _ _ c.if-n-eq2.false, ne_eqb _ _ c.if-n-eq4.false, ne_eqb _ _ c.if-n-eq7.false, eq-eqb _ _ c.if-n-eq10.true, ← c.day_or_days.ensures)

pub bad_range-requires : goal.bad_range-requires
bad_range-requires c = omega (arith, c.slash_of.ensures, slash-below c.args.s.now)

pub returns : goal.returns
unfolding ported refusal pick
returns c =
    simp (ne_eqb _ _ c.if-n-eq0.false, lt-leb _ _ c.if-s-ge58.false, ne_eqb _ _ c.if-n-eq2.false, ne_eqb _ _ c.if-n-eq4.false, ne_eqb _ _ c.if-n-eq7.false, ne_eqb _ _ c.if-n-eq10.false, ← c.slash_of.ensures, ← c.bad_range.ensures)
