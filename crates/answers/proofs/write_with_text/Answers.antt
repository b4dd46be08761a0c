use mathlib.Core.Path.{refl, sym, ap, ◌∙◌}
use mathlib.Core.Bool.{false}
use mathlib.Core.List.{List}
use Prim.Native.Nat.{ℕ}
use lib.Seq.{length-take-le}
use lib.ListN.{length}
use Rattle.puts.specs.Answers.{answer, afterwards}
use Rattle.answers.proofs.Lines.{date-line, no-date-line}
use borrow.Author.Rules.{rules}
use Rattle.answers.proofs.write_with_text.Goals as goal

pub slice_bounds-text-end : goal.slice_bounds-text-end
slice_bounds-text-end c =
    (date-line c.args.d c.write_text.ensures.d_len_bound _ refl c.write_text.ensures.value c.write_text.ensures.out_after c.in-Ok.is).0

pub slice_bounds-write_accepted-end : goal.slice_bounds-write_accepted-end
slice_bounds-write_accepted-end c =
    sym (length-take-le _ _ (date-line c.args.d c.write_text.ensures.d_len_bound _ refl c.write_text.ensures.value c.write_text.ensures.out_after c.in-Ok.is).0)

pub returns-in-Ok : goal.returns-in-Ok
returns-in-Ok c =
    let l = (date-line c.args.d c.write_text.ensures.d_len_bound _ refl c.write_text.ensures.value c.write_text.ensures.out_after c.in-Ok.is).1 in
    record { value = c.write_accepted.ensures.value ∙ ap (λ (t : List ℕ). answer false t (length c.args.out.now)) l; out_after = c.write_accepted.ensures.out_after ∙ ap (λ (t : List ℕ). afterwards false t c.args.out.now) l }

pub returns-in-Err : goal.returns-in-Err
returns-in-Err c =
    let l = no-date-line c.args.d c.write_text.ensures.d_len_bound _ refl c.write_text.ensures.value c.write_text.ensures.out_after c.in-Err.is in
    record { value = c.write_refused.ensures.value ∙ ap (λ (t : List ℕ). answer false t (length c.args.out.now)) l; out_after = c.write_refused.ensures.out_after ∙ ap (λ (t : List ℕ). afterwards false t c.args.out.now) l }
