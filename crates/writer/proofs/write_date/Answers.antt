use Rattle.writer.specs.Texts.{date_text}
use Rattle.writer.proofs.Answered.{date-unmeasured}
use borrow.Author.Rules.{rules}
use Rattle.std.proofs.lemmas.Result.{err_from_is_err_and}
use Rattle.writer.proofs.write_date.Goals as goal

pub returns-in_err-date_length : goal.returns-in_err-date_length
returns-in_err-date_length c =
    let p = err_from_is_err_and c.from_residual.result c.from_residual.ensures.1 in
    let a = c.args in
    let q = date-unmeasured a.d (date_text a.d) a.out.now c.date_length.ensures.value c.in_err-date_length.was in
    record { value = rw (p.1, p.2) q.0; out_after = q.1; d_len_bound = c.date_length.ensures.d_len_bound }
