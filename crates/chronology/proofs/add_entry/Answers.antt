use native.Mathlib.Omega.{arith}
use mathlib.Core.Path.{sym, ◌∙◌}
use Rattle.chronology.proofs.Signs.{entry-is}
use Rattle.chronology.proofs.Answers.{sound-few, add-says, add-leaves, add-keeps}
use Rattle.std.proofs.lemmas.Result.{err_from_is_err_and}
use Rattle.chronology.proofs.add_entry.Goals as goal

pub rank-at-requires : goal.rank-at-requires
rank-at-requires c =
    (sound-few _ (add-says _ _ _ _ (sym c.add_answer.ensures ∙ c.in_ok-n.was)).was_sound, c.requires)

pub insert_row-requires : goal.insert_row-requires
insert_row-requires c =
    (c.rank-at.ensures.1, omega (arith, (add-says _ _ _ _ (sym c.add_answer.ensures ∙ c.in_ok-n.was)).not_full), c.requires.of_firsts, c.requires.of_lasts, c.requires.of_ids)

pub returns : goal.returns
returns c =
    let q = (sym c.add_answer.ensures ∙ c.in_ok-n.was) in
    let p = c.args.period in
    let r = c.insert_row.ensures in
    record { value = sym q; ids_value = add-leaves _ p c.args.id q (entry-is p c.args.id (record { sfits = c.struct_told-1.given.0.1 }) (record { sfits = c.struct_told-1.given.1.0.1 })) c.rank-at.ensures.0 r.0 r.1 r.2 }

pub returns-in_err-n : goal.returns-in_err-n
returns-in_err-n c =
    let p = err_from_is_err_and c.from_residual.result c.from_residual.ensures.1 in
    let q = (sym c.add_answer.ensures ∙ c.in_err-n.was) in
    record { value = rw (p.1, p.2) (sym q); ids_value = add-keeps _ _ _ q }
