use Rattle.sheets.proofs.OneDate.{text-told}
use mathlib.Core.Path.{sym}
use lib.Seq.{length-take-le}
use Rattle.sheets.proofs.date_copied.Goals as goal

pub slice_bounds-text-end : goal.slice_bounds-text-end
slice_bounds-text-end c = c.copy-n.ensures.1

pub slice_bounds-date_text-end : goal.slice_bounds-date_text-end
slice_bounds-date_text-end c = sym (length-take-le _ _ c.copy-n.ensures.1)

pub returns : goal.returns
returns c =
    let a = c.args in
    text-told a.line a.key.now a.column c.copy-n.ensures.0 c.date_text.ensures
