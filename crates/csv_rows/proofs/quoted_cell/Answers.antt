use mathlib.Core.Path.{◌∙◌}
use Rattle.csv_rows.proofs.Places.{quoted-at, quoted-never, quoted-unclear}
use borrow.Author.Rules.{rules}
use native.Mathlib.Omega.{arith}
use Rattle.csv_rows.proofs.quoted_cell.Goals as goal

pub returns-then-e-s : goal.returns-then-e-s
returns-then-e-s c =
    let a = c.args in
    c.closed_cell.ensures ∙ rw c.stop_at.ensures (quoted-at a.over a.sep a.at a.s.now c.quote_end-e.result c.quote_end-e.ensures c.if-e-s.true)

pub returns-then-over : goal.returns-then-over
returns-then-over c =
    let a = c.args in
    quoted-never a.over a.sep a.at a.s.now c.quote_end-e.result c.quote_end-e.ensures c.if-e-s.false c.if-over.true

pub returns : goal.returns
returns c =
    let a = c.args in
    quoted-unclear a.over a.sep a.at a.s.now c.quote_end-e.result c.quote_end-e.ensures c.if-e-s.false c.if-over.false
