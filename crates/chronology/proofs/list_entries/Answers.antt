use mathlib.Core.Path.{sym, ◌∙◌}
use Rattle.chronology.proofs.Answers.{sound-few, list-says, list-leaves, list-keeps}
use Rattle.std.proofs.lemmas.Result.{err_from_is_err_and}
use Rattle.chronology.proofs.list_entries.Goals as goal

pub put_entries-requires : goal.put_entries-requires
put_entries-requires c =
    let w = list-says _ _ _ (sym c.list_answer.ensures ∙ c.in_ok-n.was) in (sound-few _ w.0, c.requires, w.1)

pub returns : goal.returns
returns c =
    let q = (sym c.list_answer.ensures ∙ c.in_ok-n.was) in record { value = sym q; out_after = list-leaves _ _ c.requires q c.put_entries.ensures }

pub returns-in_err-n : goal.returns-in_err-n
returns-in_err-n c =
    let p = err_from_is_err_and c.from_residual.result c.from_residual.ensures.1 in
    let q = (sym c.list_answer.ensures ∙ c.in_err-n.was) in
    record { value = rw (p.1, p.2) (sym q); out_after = list-keeps _ _ q }
