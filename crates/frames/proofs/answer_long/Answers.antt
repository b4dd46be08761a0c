use mathlib.Core.Path.{ap, ◌∙◌}
use mathlib.Core.Bool.{false}
use mathlib.Core.List.{List}
use Prim.Native.Nat.{ℕ}
use lib.ListN.{length}
use Rattle.puts.specs.Answers.{answer, afterwards}
use Rattle.frames.proofs.Said.{bad-line}
use borrow.Author.Rules.{rules}
use Rattle.frames.proofs.answer_long.Goals as goal

pub returns : goal.returns
returns c =
    let e = bad-line c.bad_frame.ensures.value in
    record { value = c.write_refused_words.ensures.value ∙ ap (λ (l : List ℕ). answer false l (length c.args.out.now)) e; out_after = c.write_refused_words.ensures.out_after ∙ ap (λ (l : List ℕ). afterwards false l c.args.out.now) e }
