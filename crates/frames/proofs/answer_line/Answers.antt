use mathlib.Core.Path.{sym}
use lib.Seq.{length-take-le}
use Rattle.puts.proofs.Puts.{tried-as}
use Rattle.answers.specs.Answer.{answer_line}
use Rattle.frames.specs.Frame.{bad_frame}
use Rattle.frames.proofs.Lengths.{answer-tried}
use Rattle.frames.proofs.Parts.{bytes-in, frame_small, line-is, line-bad}
use borrow.Author.Rules.{rules}
use Rattle.frames.proofs.answer_line.Goals as goal

pub slice_bounds-answer_frame-end : goal.slice_bounds-answer_frame-end
slice_bounds-answer_frame-end c =
    bytes-in c.args.line.now c.args.frame.now c.requires.0 c.requires.1 c.decode.ensures.value c.decode.ensures.frame_after c.in-Some.is

pub slice_bounds-answer_frame-end-in-Some : goal.slice_bounds-answer_frame-end-in-Some
slice_bounds-answer_frame-end-in-Some c =
    sym (length-take-le _ _ (bytes-in c.args.line.now c.args.frame.now c.requires.0 c.requires.1 c.decode.ensures.value c.decode.ensures.frame_after c.in-Some.is))

pub answer_frame-requires : goal.answer_frame-requires
answer_frame-requires c =
    frame_small c.args.line.now c.args.frame.now c.requires.0 c.requires.1 c.decode.ensures.value c.decode.ensures.frame_after c.in-Some.is

pub returns-in-Some : goal.returns-in-Some
returns-in-Some c =
    let e = line-is c.args.line.now c.args.frame.now c.requires.0 c.requires.1 c.decode.ensures.value c.decode.ensures.frame_after c.in-Some.is in
    tried-as (sym e) c.answer_frame.ensures

pub returns-in-None : goal.returns-in-None
returns-in-None c =
    let e = line-bad c.args.line.now c.args.frame.now c.requires.0 c.requires.1 c.decode.ensures.value c.decode.ensures.frame_after c.in-None.is in
    tried-as (sym e) (answer-tried (answer_line bad_frame) c.args.out.now c.answer_long.ensures.value c.answer_long.ensures.out_after c.length_of.ensures)
