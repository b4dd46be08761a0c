use Rattle.csv_rows.proofs.Moves.{row-advances}
use Rattle.headers.proofs.Csv.{row-cells}
use mathlib.Core.Path.{sym, ◌∙◌, ap, refl}
use native.Mathlib.Omega.{arith}
use Rattle.headers.specs.Header.{header_by, header_in, with_row}
use borrow.Author.Rules.{rules}
use Rattle.headers.proofs.header_by.Goals as goal

pub with_row-requires : goal.with_row-requires
with_row-requires c =
    let n = row-advances _ _ _ (sym c.next_row.ensures.value ∙ c.in-Row.is) in
    (omega arith, n.2, n.1)

pub returns-in-Row : goal.returns-in-Row
unfolding header_by header_in
returns-in-Row c =
    let a = c.args in
    let h = sym c.next_row.ensures.value ∙ c.in-Row.is in
    let e = row-cells a.separator a.last a.s.now _ c.next_row.ensures.table_after refl h in
    rw h (c.with_row.ensures ∙ ap (with_row a.n a.separator a.s.now _ _) e)

pub returns-in-Faulty : goal.returns-in-Faulty
unfolding header_by header_in
returns-in-Faulty c =
    simp (← c.next_row.ensures.value, c.in-Faulty.is, ← c.no_row.ensures)

pub returns-in-Endless : goal.returns-in-Endless
unfolding header_by header_in
returns-in-Endless c =
    simp (← c.next_row.ensures.value, c.in-Endless.is, ← c.no_row-in-Endless.ensures)

pub returns-in-More : goal.returns-in-More
unfolding header_by header_in
returns-in-More c =
    simp (← c.next_row.ensures.value, c.in-More.is)

pub returns-in-Nothing : goal.returns-in-Nothing
unfolding header_by header_in
returns-in-Nothing c =
    simp (← c.next_row.ensures.value, c.in-Nothing.is)
