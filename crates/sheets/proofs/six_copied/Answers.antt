use mathlib.Core.Path.{sym}
use Rattle.sheets.proofs.OneDate.{six-as}
use lib.Seq.{length-take-le}
use Rattle.sheets.proofs.six_copied.Goals as goal

pub slice_bounds-t1-end : goal.slice_bounds-t1-end
slice_bounds-t1-end c = c.copy-n1.ensures.1

pub slice_bounds-six_texts-end : goal.slice_bounds-six_texts-end
slice_bounds-six_texts-end c = sym (length-take-le _ _ c.copy-n1.ensures.1)

pub slice_bounds-t2-end : goal.slice_bounds-t2-end
slice_bounds-t2-end c = c.copy-n2.ensures.1

pub slice_bounds-six_texts-end-2 : goal.slice_bounds-six_texts-end-2
slice_bounds-six_texts-end-2 c = sym (length-take-le _ _ c.copy-n2.ensures.1)

pub slice_bounds-t3-end : goal.slice_bounds-t3-end
slice_bounds-t3-end c = c.copy-n3.ensures.1

pub slice_bounds-six_texts-end-3 : goal.slice_bounds-six_texts-end-3
slice_bounds-six_texts-end-3 c = sym (length-take-le _ _ c.copy-n3.ensures.1)

pub slice_bounds-t4-end : goal.slice_bounds-t4-end
slice_bounds-t4-end c = c.copy-n4.ensures.1

pub slice_bounds-six_texts-end-4 : goal.slice_bounds-six_texts-end-4
slice_bounds-six_texts-end-4 c = sym (length-take-le _ _ c.copy-n4.ensures.1)

pub slice_bounds-t5-end : goal.slice_bounds-t5-end
slice_bounds-t5-end c = c.copy-n5.ensures.1

pub slice_bounds-six_texts-end-5 : goal.slice_bounds-six_texts-end-5
slice_bounds-six_texts-end-5 c = sym (length-take-le _ _ c.copy-n5.ensures.1)

pub slice_bounds-t6-end : goal.slice_bounds-t6-end
slice_bounds-t6-end c = c.copy-n6.ensures.1

pub slice_bounds-six_texts-end-6 : goal.slice_bounds-six_texts-end-6
slice_bounds-six_texts-end-6 c = sym (length-take-le _ _ c.copy-n6.ensures.1)

pub returns : goal.returns
returns c = let a = c.args in
    six-as a.line a.key.now c.copy-n1.ensures.0 c.copy-n2.ensures.0 c.copy-n3.ensures.0 c.copy-n4.ensures.0 c.copy-n5.ensures.0 c.copy-n6.ensures.0 c.six_texts.ensures
