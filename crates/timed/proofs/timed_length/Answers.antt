use native.Mathlib.Omega.{arith}
use Rattle.timed.proofs.Answered.{no-panic, is-bad, has-length, panicked, most}
use borrow.Author.Rules.{rules}
use Rattle.std.proofs.lemmas.Result.{err_from_is_err_and}
use Rattle.timed.proofs.timed_length.Goals as goal

pub returns-then-value_bad : goal.returns-then-value_bad
returns-then-value_bad c =
    record { value = is-bad c.args.d c.date_length.ensures.value c.in_ok-n.was c.value_bad.ensures c.if-value_bad.true c.nowhere.ensures; d_len_bound = most c.args.d c.date_length.ensures.value c.date_length.ensures.d_len_bound }

pub overflow_add-result : goal.overflow_add-result
overflow_add-result c =
    let q = no-panic c.args.d c.date_length.ensures.value c.in_ok-n.was in omega (arith, q.2, c.date_length.ensures.d_len_bound q.1, c.times_length.ensures.1)

pub returns : goal.returns
returns c =
    record { value = has-length c.args.d c.date_length.ensures.value c.in_ok-n.was c.value_bad.ensures c.if-value_bad.false c.times_length.ensures.0; d_len_bound = most c.args.d c.date_length.ensures.value c.date_length.ensures.d_len_bound }

pub returns-in_err-n : goal.returns-in_err-n
returns-in_err-n c =
    let p = err_from_is_err_and c.from_residual.result c.from_residual.ensures.1 in
    record { value = rw (p.1, p.2) (panicked c.args.d c.date_length.ensures.value c.in_err-n.was); d_len_bound = most c.args.d c.date_length.ensures.value c.date_length.ensures.d_len_bound }
