use Rattle.timed.proofs.Answered.{fits, done, refuses}
use borrow.Author.Rules.{rules}
use Rattle.std.proofs.lemmas.Result.{err_from_is_err_and}
use Rattle.timed.proofs.write_timed.Goals as goal

pub put_timed-requires : goal.put_timed-requires
put_timed-requires c =
    fits c.args.d c.args.out.now c.timed_length.ensures.value c.decide.ensures c.in_ok-decide.was

pub returns : goal.returns
returns c =
    let q = done c.args.d c.args.out.now c.timed_length.ensures.value c.decide.ensures c.in_ok-decide.was c.put_timed.ensures in record { value = q.0; out_after = q.1; d_len_bound = c.timed_length.ensures.d_len_bound }

pub returns-in_err-decide : goal.returns-in_err-decide
returns-in_err-decide c =
    let p = err_from_is_err_and c.from_residual.result c.from_residual.ensures.1 in
    let q = refuses c.args.d c.args.out.now c.timed_length.ensures.value c.decide.ensures c.in_err-decide.was in record { value = rw (p.1, p.2) q.0; out_after = q.1; d_len_bound = c.timed_length.ensures.d_len_bound }
