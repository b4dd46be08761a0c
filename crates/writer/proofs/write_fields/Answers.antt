use Rattle.writer.specs.Fields.{fields_text}
use Rattle.writer.proofs.Answered.{date-fits, date-refuses, date-done}
use borrow.Author.Rules.{rules}
use Rattle.std.proofs.lemmas.Result.{err_from_is_err_and}
use Rattle.writer.proofs.write_fields.Goals as goal

pub put_value_lines-requires : goal.put_value_lines-requires
unfolding fields_text
put_value_lines-requires c =
    date-fits c.args.d (fields_text c.args.d) c.args.out.now c.fields_length.ensures c.decide.ensures c.in_ok-decide.was

pub returns : goal.returns
unfolding fields_text
returns c =
    let both = date-done c.args.d (fields_text c.args.d) c.args.out.now c.fields_length.ensures c.decide.ensures c.in_ok-decide.was c.put_value_lines.ensures in record { value = both.0; out_after = both.1 }

pub returns-in_err-decide : goal.returns-in_err-decide
returns-in_err-decide c =
    let p = err_from_is_err_and c.from_residual.result c.from_residual.ensures.1 in
    let both = date-refuses c.args.d (fields_text c.args.d) c.args.out.now c.fields_length.ensures c.decide.ensures c.in_err-decide.was in record { value = rw (p.1, p.2) both.0; out_after = both.1 }
