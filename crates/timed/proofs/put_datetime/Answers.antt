use native.Mathlib.Omega.{arith}
use Rattle.timed.proofs.Answered.{end-put, end-count, never-refused}
use borrow.Author.Rules.{rules}
use Rattle.timed.proofs.put_datetime.Goals as goal

pub overflow_add-result : goal.overflow_add-result
overflow_add-result c =
    omega (arith, end-count c.args.d c.args.out.now c.write_text-w.new.out c.args.at c.from_datetime.ensures c.requires c.write_text-w.ensures.value c.write_text-w.ensures.out_after c.in-Ok.is, c.well_formed)

pub returns-in-Ok : goal.returns-in-Ok
returns-in-Ok c =
    end-put c.args.d c.args.out.now c.write_text-w.new.out c.args.at c.from_datetime.ensures c.requires c.write_text-w.ensures.value c.write_text-w.ensures.out_after c.in-Ok.is

pub returns-in-Err : goal.returns-in-Err
returns-in-Err c =
    absurd (never-refused c.args.d c.args.out.now c.write_text-w.new.out c.args.at c.from_datetime.ensures c.requires c.write_text-w.ensures.value c.write_text-w.ensures.out_after c.in-Err.is)
