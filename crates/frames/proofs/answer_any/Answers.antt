use mathlib.Core.Path.{refl, ap, ◌∙◌}
use mathlib.Core.Bool.{false}
use mathlib.Core.List.{List}
use Prim.Native.Nat.{ℕ}
use lib.ListN.{length}
use Rattle.puts.specs.Answers.{answer, afterwards}
use Rattle.frames.specs.Frame.{frame_read, frame_answer}
use Rattle.frames.proofs.Parts.{answer_is}
use Rattle.frames.proofs.Lengths.{answer-tried}
use borrow.Author.Rules.{rules}
use Rattle.frames.proofs.answer_any.Goals as goal

pub returns : goal.returns
returns c =
    let a = c.args in
    let x = frame_read a.f.now in
    let e = answer_is a.f.now {r = x} c.byte_at.ensures c.asked-op.ensures refl in
    answer-tried (frame_answer a.f.now) a.out.now (c.write_said.ensures.value x c.read_frame.ensures.value c.read_frame.ensures.typed ∙ ap (λ (l : List ℕ). answer false l (length a.out.now)) e) (c.write_said.ensures.out_after x c.read_frame.ensures.value c.read_frame.ensures.typed ∙ ap (λ (l : List ℕ). afterwards false l a.out.now) e) c.length_of.ensures
