use native.Mathlib.Omega.{arith}
use mathlib.Core.Path.{sym, ◌∙◌}
use Rattle.chronology.proofs.Answers.{sound-room, sound-few, place_found, remove-says, remove-leaves, remove-keeps}
use Rattle.std.proofs.lemmas.Result.{err_from_is_err_and}
use Rattle.chronology.proofs.remove_entry.Goals as goal

pub find-at-requires : goal.find-at-requires
find-at-requires c =
    (omega arith, sound-few _ (remove-says _ _ _ (sym c.remove_answer.ensures ∙ c.in_ok-left.was)).was_sound, c.requires.of_ids)

pub remove_row-requires : goal.remove_row-requires
remove_row-requires c =
    let w = remove-says _ _ _ (sym c.remove_answer.ensures ∙ c.in_ok-left.was) in
    (place_found _ c.args.id (sound-room _ c.requires w.was_sound) w.id_there c.find-at.ensures.0, sound-few _ w.was_sound, c.requires.of_firsts, c.requires.of_lasts, c.requires.of_ids)

pub returns : goal.returns
returns c =
    let q = (sym c.remove_answer.ensures ∙ c.in_ok-left.was) in
    let r = c.remove_row.ensures in
    record { value = sym q; ids_value = remove-leaves _ c.args.id c.requires q c.find-at.ensures.0 r.0 r.1 r.2 }

pub returns-in_err-left : goal.returns-in_err-left
returns-in_err-left c =
    let p = err_from_is_err_and c.from_residual.result c.from_residual.ensures.1 in
    let q = (sym c.remove_answer.ensures ∙ c.in_err-left.was) in
    record { value = rw (p.1, p.2) (sym q); ids_value = remove-keeps _ _ q }
