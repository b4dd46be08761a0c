use borrow.Author.Tests.{lt-ltb, le-ltb, eq-eqb, ne_eqb}
use Rattle.codes.specs.Ported.{bad_parts}
use Rattle.refusals.specs.Refusal.{refusal}
use Rattle.chars.specs.Pick.{pick}
use mir.ValLaws.{to_z-of_z}
use mir.Syntax.{w32}
use borrow.Author.Rules.{rules}
use Rattle.codes.proofs.bad_parts.Goals as goal

pub returns-then-m-eq0 : goal.returns-then-m-eq0
unfolding bad_parts refusal pick
returns-then-m-eq0 c =
    simp (eq-eqb _ _ c.if-m-eq0.true, c.refused.ensures)

pub returns-then-m-gt12 : goal.returns-then-m-gt12
unfolding bad_parts refusal pick
returns-then-m-gt12 c =
    simp (ne_eqb _ _ c.if-m-eq0.false, lt-ltb _ _ c.if-m-gt12.true, c.refused-then-m-gt12.ensures)

pub returns-then-d-eq0 : goal.returns-then-d-eq0
unfolding bad_parts refusal pick
returns-then-d-eq0 c =
    simp (ne_eqb _ _ c.if-m-eq0.false, le-ltb _ _ c.if-m-gt12.false, eq-eqb _ _ c.if-d-eq0.true, c.refused-then-d-eq0.ensures)

pub returns-then-d-gt31 : goal.returns-then-d-gt31
unfolding bad_parts refusal pick
returns-then-d-gt31 c =
    simp (ne_eqb _ _ c.if-m-eq0.false, le-ltb _ _ c.if-m-gt12.false, ne_eqb _ _ c.if-d-eq0.false, lt-ltb _ _ c.if-d-gt31.true, c.refused-then-d-gt31.ensures)

pub returns-then-d-days_in_month : goal.returns-then-d-days_in_month
unfolding bad_parts refusal pick
returns-then-d-days_in_month c =
    let y = c.signed in
    let l = rw (to_z-of_z w32 y.result (record { sfits = y.type_inv }), y.ensures) at c.days_in_month.ensures in
    simp (ne_eqb _ _ c.if-m-eq0.false, le-ltb _ _ c.if-m-gt12.false, ne_eqb _ _ c.if-d-eq0.false, le-ltb _ _ c.if-d-gt31.false, ← l, lt-ltb _ _ c.if-d-days_in_month.true, c.no_words.ensures)

pub returns : goal.returns
unfolding bad_parts refusal pick
returns c =
    let y = c.signed in
    let l = rw (to_z-of_z w32 y.result (record { sfits = y.type_inv }), y.ensures) at c.days_in_month.ensures in
    simp (ne_eqb _ _ c.if-m-eq0.false, le-ltb _ _ c.if-m-gt12.false, ne_eqb _ _ c.if-d-eq0.false, le-ltb _ _ c.if-d-gt31.false, ← l, le-ltb _ _ c.if-d-days_in_month.false, c.refused-2.ensures)
