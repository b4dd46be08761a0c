use Rattle.datefield.proofs.Marks.{mark-date}
use lib.Seq.{length-take-le}
use native.Mathlib.Omega.{arith}
use mathlib.Core.Path.{sym, ap, ◌∙◌}
use Rattle.datefield.specs.Text.{is_uncertain, is_approximate}
use borrow.Author.Rules.{rules}
use Rattle.datefield.proofs.read_trimmed.Goals as goal

pub unmarked_length-n-requires : goal.unmarked_length-n-requires
unmarked_length-n-requires c =
    let e = c.last_byte-mark.ensures in
    (c.is_uncertain-uncertain.ensures ∙ ap is_uncertain e, c.is_approximate-approximate.ensures ∙ ap is_approximate e)

pub slice_bounds-read_value-end : goal.slice_bounds-read_value-end
slice_bounds-read_value-end c = sym (length-take-le _ _ (omega (arith, c.unmarked_length-n.ensures.1)))

pub returns : goal.returns
returns c =
    let a = c.args in
    let e = c.last_byte-mark.ensures in
    mark-date a.s.now (c.is_uncertain-uncertain.ensures ∙ ap is_uncertain e) (c.is_approximate-approximate.ensures ∙ ap is_approximate e) a.span c.unmarked_length-n.ensures.0 c.read_value.ensures c.marked.ensures
