use native.Mathlib.Omega.{arith}
use Rattle.answers.specs.Answer.{refusal_bytes, line_of}
use Rattle.answers.proofs.Digits.{length-line}
use Rattle.answers.proofs.Lines.{no_line, line-done}
use borrow.Author.Rules.{rules}
use Rattle.answers.proofs.write_number.Goals as goal

pub returns-then-out-lt35 : goal.returns-then-out-lt35
returns-then-out-lt35 c =
    let a = c.args in
    let t = refusal_bytes a.number a.start a.end in
    let both = no_line (line_of t) a.out.now (omega (arith, length-line t)) c.no_room.ensures in record { value = both.0; out_after = both.1 }

pub returns : goal.returns
returns c =
    let a = c.args in
    let t = refusal_bytes a.number a.start a.end in
    let both = line-done (line_of t) a.out.now (omega (arith, length-line t)) c.put_refused.ensures in record { value = both.0; out_after = both.1 }
