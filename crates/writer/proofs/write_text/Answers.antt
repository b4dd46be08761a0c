use Rattle.writer.specs.Texts.{date_text}
use Rattle.writer.proofs.Answered.{date-fits, date-refuses, date-done}
use borrow.Author.Rules.{rules}
use Rattle.std.proofs.lemmas.Result.{err_from_is_err_and}
use Rattle.writer.proofs.write_text.Goals as goal

pub put_date-requires : goal.put_date-requires
put_date-requires c =
    date-fits c.args.d (date_text c.args.d) c.args.out.now c.date_length.ensures.value c.decide.ensures c.in_ok-decide.was

pub returns : goal.returns
returns c =
    let q = date-done c.args.d (date_text c.args.d) c.args.out.now c.date_length.ensures.value c.decide.ensures c.in_ok-decide.was c.put_date.ensures in
    record { value = q.0; out_after = q.1; d_len_bound = c.date_length.ensures.d_len_bound }

pub returns-in_err-decide : goal.returns-in_err-decide
returns-in_err-decide c =
    let p = err_from_is_err_and c.from_residual.result c.from_residual.ensures.1 in
    let q = date-refuses c.args.d (date_text c.args.d) c.args.out.now c.date_length.ensures.value c.decide.ensures c.in_err-decide.was in
    record { value = rw (p.1, p.2) q.0; out_after = q.1; d_len_bound = c.date_length.ensures.d_len_bound }
