use Rattle.headers.specs.Columns.{columns_of}
use borrow.Author.Rules.{rules}
use Rattle.headers.proofs.columns_in.Goals as goal

pub returns : goal.returns
unfolding columns_of
returns c =
    simp (← c.column.ensures, ← c.column-2.ensures, ← c.column-3.ensures, ← c.column-4.ensures, ← c.column-5.ensures, ← c.column-6.ensures, ← c.column-7.ensures, ← c.column-8.ensures, ← c.column-9.ensures, ← c.column-10.ensures, ← c.column-11.ensures, ← c.column-12.ensures)
