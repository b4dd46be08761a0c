use lib.Seq.{length-take-le}
use Rattle.verdicts.proofs.Texts.{done-text, no_text}
use Rattle.findings.proofs.Runs.{nothing, ran-as}
use mathlib.Core.Path.{refl, sym}
use Rattle.findings.proofs.put_written.Goals as goal

pub slice_bounds-text-end : goal.slice_bounds-text-end
slice_bounds-text-end c =
    (done-text c.args.d c.write_text.ensures.d_len_bound _ refl c.write_text.ensures.value c.write_text.ensures.out_after c.in-Ok.is).0

pub slice_bounds-put_piece-end : goal.slice_bounds-put_piece-end
slice_bounds-put_piece-end c =
    sym (length-take-le _ _ (done-text c.args.d c.write_text.ensures.d_len_bound _ refl c.write_text.ensures.value c.write_text.ensures.out_after c.in-Ok.is).0)

pub returns-in-Ok : goal.returns-in-Ok
returns-in-Ok c =
    ran-as c.put_piece.ensures (sym (done-text c.args.d c.write_text.ensures.d_len_bound _ refl c.write_text.ensures.value c.write_text.ensures.out_after c.in-Ok.is).1)

pub returns-in-Err : goal.returns-in-Err
returns-in-Err c =
    ran-as (nothing c.args.out.now c.args.at) (no_text c.args.d c.write_text.ensures.d_len_bound _ refl c.write_text.ensures.value c.write_text.ensures.out_after c.in-Err.is)
