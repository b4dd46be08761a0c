use Prim.Native.Nat.{ℕ}
use native.Mathlib.Nat.{sub-zero}
use Rattle.headers.specs.Tables.{cells_from}
use mathlib.Core.Path.{ap, ◌∙◌}
use Rattle.headers.specs.Columns.{column_of}
use borrow.Author.Rules.{rules}
use Rattle.headers.proofs.column.Goals as goal

pub returns : goal.returns
unfolding column_of
returns c =
    let a = c.args in
    c.column_from.ensures ∙ ap (λ (n : ℕ). column_of a.name.now (cells_from a.s.now a.table.now 0 n)) (sub-zero a.count)
