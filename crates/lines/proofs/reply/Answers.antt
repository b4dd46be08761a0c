use Rattle.lines.specs.Steps.{next_answer}
use borrow.Author.Rules.{rules}
use Rattle.lines.proofs.reply.Goals as goal

pub returns-then-long : goal.returns-then-long
unfolding next_answer
returns-then-long c = rw c.if-long.true (record { value = c.answer_long.ensures.value; out_after = c.answer_long.ensures.out_after })

pub returns : goal.returns
unfolding next_answer
returns c = rw c.if-long.false (record { value = c.answer.ensures.value; out_after = c.answer.ensures.out_after })
