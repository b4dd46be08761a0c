use native.Mathlib.Omega.{arith}
use Rattle.lines.specs.Steps.{next_answer}
use Rattle.frames.specs.Frame.{line_answer}
use Rattle.lines.specs.Frames.{long_answer}
use Rattle.lines.specs.Steps.Replied.{was_put}
use Rattle.puts.proofs.Lent.{fits, in-range, put-done, put-none}
use Rattle.lines.proofs.Replies.{unchanged}
use borrow.Author.Rules.{rules}
use Rattle.lines.proofs.put_line.Goals as goal

pub overflow_add-result : goal.overflow_add-result
overflow_add-result c =
    let a = c.args in
    omega (arith, in-range (next_answer line_answer long_answer a.long a.line.now) a.out.now a.p (omega arith) c.reply.ensures.value c.reply.ensures.out_after c.in-Ok.is)

pub returns-in-Ok : goal.returns-in-Ok
returns-in-Ok c =
    let a = c.args in
    let t = next_answer line_answer long_answer a.long a.line.now in
    was_put (fits t a.out.now a.p (omega arith) c.reply.ensures.value c.reply.ensures.out_after c.in-Ok.is)
    (put-done t a.out.now a.p (omega arith) c.reply.ensures.value c.reply.ensures.out_after c.in-Ok.is)

pub returns-in-Err : goal.returns-in-Err
returns-in-Err c =
    let a = c.args in
    let t = next_answer line_answer long_answer a.long a.line.now in
    let z = put-none t a.out.now a.p (omega arith) c.reply.ensures.value c.reply.ensures.out_after c.in-Err.is in
    unchanged z.0 z.1
