use borrow.Author.Rules.{rules}
use Rattle.csv_rows.proofs.next_row.Goals as goal

pub returns : goal.returns
returns c = let e = c.byte_of.ensures in record { value = rw (← e) c.row_in.ensures.value; table_after = rw (← e) c.row_in.ensures.table_after }
