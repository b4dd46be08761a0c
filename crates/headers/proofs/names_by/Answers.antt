use Rattle.headers.proofs.Csv.{row-cells}
use Rattle.headers.specs.Columns.{known, columns_of}
use mathlib.Core.Path.{ap, sym, ◌∙◌, refl}
use Rattle.std.specs.Prelude.{Some}
use Rattle.headers.specs.Header.{names_by, names_in}
use borrow.Author.Rules.{rules}
use Rattle.headers.proofs.names_by.Goals as goal

pub returns-in-Row : goal.returns-in-Row
unfolding names_by names_in
returns-in-Row c =
    let a = c.args in
    let h = sym c.next_row.ensures.value ∙ c.in-Row.is in
    let e = row-cells a.separator a.last a.s.now _ c.next_row.ensures.table_after refl h in
    rw h (ap Some (c.known.ensures ∙ ap known (c.columns_in.ensures ∙ ap columns_of e)))

pub returns-in-Faulty : goal.returns-in-Faulty
unfolding names_by names_in
returns-in-Faulty c =
    simp (← c.next_row.ensures.value, c.in-Faulty.is)

pub returns-in-Endless : goal.returns-in-Endless
unfolding names_by names_in
returns-in-Endless c =
    simp (← c.next_row.ensures.value, c.in-Endless.is)

pub returns-in-More : goal.returns-in-More
unfolding names_by names_in
returns-in-More c =
    simp (← c.next_row.ensures.value, c.in-More.is)

pub returns-in-Nothing : goal.returns-in-Nothing
unfolding names_by names_in
returns-in-Nothing c =
    simp (← c.next_row.ensures.value, c.in-Nothing.is)
