use Rattle.datefield.specs.Text.{last_byte, is_uncertain, is_approximate}
use native.Mathlib.Omega.{arith}
use mathlib.Core.Path.{sym}
use Rattle.codes.proofs.Laws.{text_is, marks-most}
use lib.Seq.{length-take-le}
use borrow.Author.Rules.{rules}
use Rattle.codes.proofs.text.Goals as goal

pub slice_bounds-unmarked-end : goal.slice_bounds-unmarked-end
slice_bounds-unmarked-end c = sym (length-take-le _ _ (omega (arith, c.unmarked_length-n.ensures.1)))

pub unmarked-requires : goal.unmarked-requires
unmarked-requires c =
    let s = c.args.s.now in
    omega (arith, c.last_mark-m.ensures, marks-most (is_uncertain (last_byte s)) (is_approximate (last_byte s)))

pub returns : goal.returns
returns c =
    text_is _ c.last_mark-m.ensures (sym c.unmarked_length-n.ensures.0) c.unmarked.ensures
