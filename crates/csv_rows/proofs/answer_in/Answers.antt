use mathlib.Core.Path.{◌∙◌}
use Rattle.csv_rows.specs.Answers.{is_over}
use Rattle.csv_rows.proofs.Replies.{by-scan}
use borrow.Author.Rules.{rules}
use Rattle.csv_rows.proofs.answer_in.Goals as goal

pub returns : goal.returns
unfolding is_over
returns c =
    let a = c.args in
    let f = c.read_cells-f in
    record { value = c.answer_by.ensures ∙ by-scan a.last a.cut a.s.now _ f.ensures; table_after = f.ensures.table_is }
