use mathlib.Core.Path.{refl, sym}
use lib.Seq.{length-take-le}
use Rattle.verdicts.specs.Plain.{is_strict}
use Rattle.verdicts.proofs.Texts.{done-text, no_text}
use Rattle.verdicts.proofs.Plain.{none-strict}
use Rattle.verdicts.proofs.is_strict.Goals as goal

pub slice_bounds-text-end : goal.slice_bounds-text-end
slice_bounds-text-end c =
    (done-text c.args.d c.write_text.ensures.d_len_bound _ refl c.write_text.ensures.value c.write_text.ensures.out_after c.in-Ok.is).0

pub slice_bounds-is_strict_text-end : goal.slice_bounds-is_strict_text-end
slice_bounds-is_strict_text-end c =
    sym (length-take-le _ _ (done-text c.args.d c.write_text.ensures.d_len_bound _ refl c.write_text.ensures.value c.write_text.ensures.out_after c.in-Ok.is).0)

pub returns-in-Ok : goal.returns-in-Ok
unfolding is_strict
returns-in-Ok c =
    rw (← (done-text c.args.d c.write_text.ensures.d_len_bound _ refl c.write_text.ensures.value c.write_text.ensures.out_after c.in-Ok.is).1) c.is_strict_text.ensures

pub returns-in-Err : goal.returns-in-Err
returns-in-Err c =
    sym (none-strict c.args.d (no_text c.args.d c.write_text.ensures.d_len_bound _ refl c.write_text.ensures.value c.write_text.ensures.out_after c.in-Err.is))
