use native.Mathlib.Omega.{arith}
use Rattle.answers.proofs.Lengths.{tried-answer}
use Rattle.frames.specs.Frame.{line_answer}
use Rattle.frames.proofs.Parts.{short-same}
use Rattle.frames.proofs.Lengths.{frames-some}
use borrow.Author.Rules.{rules}
use Rattle.frames.proofs.answer.Goals as goal

pub answer_line-requires : goal.answer_line-requires
answer_line-requires c = (short-same c.args.line.now (omega arith), omega arith)

pub returns-then-line-le512 : goal.returns-then-line-le512
returns-then-line-le512 c =
    let a = c.args in
    let l = a.line.now in
    let both = tried-answer (line_answer l) a.out.now (frames-some l) c.answer_line.ensures c.written.ensures in record { value = both.0; out_after = both.1 }

pub returns : goal.returns
returns c =
    let a = c.args in
    let l = a.line.now in
    let both = tried-answer (line_answer l) a.out.now (frames-some l) c.answer_line-2.ensures c.written-2.ensures in record { value = both.0; out_after = both.1 }
