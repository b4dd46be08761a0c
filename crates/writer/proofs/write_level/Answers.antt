use Rattle.writer.specs.Level.{level_panics, level_text}
use Rattle.puts.proofs.Answered.{fits, refuses, done}
use borrow.Author.Rules.{rules}
use Rattle.std.proofs.lemmas.Result.{err_from_is_err_and}
use Rattle.writer.proofs.write_level.Goals as goal

pub put_level_date-requires : goal.put_level_date-requires
put_level_date-requires c =
    fits (level_panics c.args.d) (level_text c.args.d) c.args.out.now c.level_length.ensures.value c.decide.ensures c.in_ok-decide.was

pub returns : goal.returns
returns c =
    let q = done (level_panics c.args.d) (level_text c.args.d) c.args.out.now c.level_length.ensures.value c.decide.ensures c.in_ok-decide.was c.put_level_date.ensures in
    record { value = q.0; out_after = q.1; d_len_bound = c.level_length.ensures.d_len_bound }

pub returns-in_err-decide : goal.returns-in_err-decide
returns-in_err-decide c =
    let p = err_from_is_err_and c.from_residual.result c.from_residual.ensures.1 in
    let q = refuses (level_panics c.args.d) (level_text c.args.d) c.args.out.now c.level_length.ensures.value c.decide.ensures c.in_err-decide.was in
    record { value = rw (p.1, p.2) q.0; out_after = q.1; d_len_bound = c.level_length.ensures.d_len_bound }
