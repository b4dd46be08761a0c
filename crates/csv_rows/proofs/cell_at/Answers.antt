use mathlib.Core.Path.{◌∙◌}
use borrow.Author.Tests.{eq-eqb, ne_eqb}
use Rattle.csv_rows.proofs.Places.{cell-quoted, cell-plain, cell-none}
use borrow.Author.Rules.{rules}
use Rattle.csv_rows.proofs.cell_at.Goals as goal

pub returns-then-s-at-eq34 : goal.returns-then-s-at-eq34
returns-then-s-at-eq34 c =
    let a = c.args in
    c.quoted_cell.ensures ∙ cell-quoted a.over a.sep a.at a.s.now c.if-at-s.true (eq-eqb _ _ c.if-s-at-eq34.true)

pub returns-then-at-s : goal.returns-then-at-s
returns-then-at-s c =
    let a = c.args in
    c.plain_cell.ensures ∙ cell-plain a.over a.sep a.at a.s.now c.if-at-s.true (ne_eqb _ _ c.if-s-at-eq34.false)

pub returns : goal.returns
returns c =
    let a = c.args in
    c.plain_cell-2.ensures ∙ cell-none a.over a.sep a.at a.s.now c.if-at-s.false
