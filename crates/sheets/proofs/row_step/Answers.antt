use Rattle.csv_rows.specs.Answers.{table_after}
use Rattle.sheets.proofs.Stepping.{row-endless, row-faulty, row_more, row-nothing, row_read, stepped-wait}
use Rattle.headers.proofs.Csv.{row-cells}
use lib.ListN.{length}
use Rattle.csv_rows.proofs.Moves.{endless-long, fault-advances, row-advances}
use Rattle.csv_rows.specs.Reader.{byte_of}
use native.Mathlib.Omega.{arith}
use mathlib.Core.Path.{ap, sym, ◌∙◌}
use Rattle.sheets.proofs.row_step.Goals as goal

pub good_step-requires : goal.good_step-requires
good_step-requires c = ((row-advances _ _ _ (sym c.next_row.ensures.value ∙ c.in-Row.is)).1, omega arith)

pub bad_step-requires : goal.bad_step-requires
bad_step-requires c = ((fault-advances _ _ _ (sym c.next_row.ensures.value ∙ c.in-Faulty.is)).1, omega arith)

pub bad_step-requires-in-Endless : goal.bad_step-requires-in-Endless
bad_step-requires-in-Endless c = (let h = endless-long _ _ _ (sym c.next_row.ensures.value ∙ c.in-Endless.is) in omega arith, omega arith)

pub returns-in-Row : goal.returns-in-Row
returns-in-Row c = let a = c.args in
    let z = c.sized.ensures in
    record { stepped = row_read a.last a.block.now a.st (sym c.next_row.ensures.value ∙ c.in-Row.is) (row-cells a.st.separator a.last a.block.now _ c.next_row.ensures.table_after (ap length z.1 ∙ z.0) (sym c.next_row.ensures.value ∙ c.in-Row.is)) c.good_step.ensures; table_after = c.next_row.ensures.table_after ∙ ap (table_after (byte_of a.st.separator) a.last a.block.now) z.1 }

pub returns-in-Faulty : goal.returns-in-Faulty
returns-in-Faulty c = let a = c.args in
    let z = c.sized.ensures in
    record { stepped = row-faulty a.last a.block.now a.st (sym c.next_row.ensures.value ∙ c.in-Faulty.is) c.bad_step.ensures; table_after = c.next_row.ensures.table_after ∙ ap (table_after (byte_of a.st.separator) a.last a.block.now) z.1 }

pub returns-in-Endless : goal.returns-in-Endless
returns-in-Endless c = let a = c.args in
    let z = c.sized.ensures in
    record { stepped = row-endless a.last a.block.now a.st (sym c.next_row.ensures.value ∙ c.in-Endless.is) c.bad_step-in-Endless.ensures; table_after = c.next_row.ensures.table_after ∙ ap (table_after (byte_of a.st.separator) a.last a.block.now) z.1 }

pub returns-in-More : goal.returns-in-More
returns-in-More c = let a = c.args in
    let z = c.sized.ensures in
    record { stepped = row_more a.last a.block.now a.st (sym c.next_row.ensures.value ∙ c.in-More.is) stepped-wait; table_after = c.next_row.ensures.table_after ∙ ap (table_after (byte_of a.st.separator) a.last a.block.now) z.1 }

pub returns-in-Nothing : goal.returns-in-Nothing
returns-in-Nothing c = let a = c.args in
    let z = c.sized.ensures in
    record { stepped = row-nothing a.last a.block.now a.st (sym c.next_row.ensures.value ∙ c.in-Nothing.is) c.last_step.ensures; table_after = c.next_row.ensures.table_after ∙ ap (table_after (byte_of a.st.separator) a.last a.block.now) z.1 }
