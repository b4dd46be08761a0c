use Rattle.answers.proofs.Lines.{no-text-line}
use borrow.Author.Rules.{rules}
use Rattle.answers.proofs.write_date.Goals as goal

pub returns-in-Err : goal.returns-in-Err
returns-in-Err c =
    let e = no-text-line c.args.d c.date_length.ensures.value c.in-Err.is in
    record { value = rw e at c.write_refused.ensures.value; out_after = rw e at c.write_refused.ensures.out_after }
