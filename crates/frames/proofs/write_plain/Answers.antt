use mathlib.Core.Path.{refl, sym, ap, ◌∙◌}
use mathlib.Core.Bool.{false}
use mathlib.Core.List.{List}
use Prim.Native.Nat.{ℕ}
use lib.ListN.{length}
use lib.Seq.{length-take-le}
use Rattle.puts.specs.Answers.{answer, afterwards}
use Rattle.answers.specs.Coded.{words_line}
use Rattle.codes.proofs.Short.{text_in, text-put}
use borrow.Author.Rules.{rules}
use Rattle.frames.proofs.write_plain.Goals as goal

pub slice_bounds-text-end : goal.slice_bounds-text-end
slice_bounds-text-end c =
    let w = c.args.w in
    text_in w.first w.second w.last c.requires _ refl c.put_text-n.ensures.value c.put_text-n.ensures.out_after

pub slice_bounds-write_words-end : goal.slice_bounds-write_words-end
slice_bounds-write_words-end c =
    let w = c.args.w in
    sym (length-take-le _ _ (text_in w.first w.second w.last c.requires _ refl c.put_text-n.ensures.value c.put_text-n.ensures.out_after))

pub returns : goal.returns
returns c =
    let w = c.args.w in
    let o = c.args.out.now in
    let t = text-put w.first w.second w.last c.requires _ refl c.put_text-n.ensures.value c.put_text-n.ensures.out_after in
    record { value = c.write_words.ensures.value ∙ ap (λ (x : List ℕ). answer false (words_line w x) (length o)) t; out_after = c.write_words.ensures.out_after ∙ ap (λ (x : List ℕ). afterwards false (words_line w x) o) t }
