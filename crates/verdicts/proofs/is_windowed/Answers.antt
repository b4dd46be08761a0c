use Rattle.verdicts.specs.Windows.{either_two, is_windowed}
use mathlib.Core.Path.{sym}
use native.Mathlib.Omega.{arith}
use lib.Seq.{length-take-le}
use Rattle.verdicts.proofs.Said.{first-within, past_two}
use Prim.Native.Nat.{◌+◌}
use Rattle.scanner.proofs.Parts.{rest}
use Rattle.verdicts.proofs.is_windowed.Goals as goal

pub returns-then-has_x : goal.returns-then-has_x
unfolding is_windowed either_two
returns-then-has_x c =
    simp (← c.has_x.ensures, c.if-has_x.true)

pub slice_bounds-begins_two-end : goal.slice_bounds-begins_two-end
slice_bounds-begins_two-end c =
    sym (length-take-le _ _ (omega (arith, c.find-slash.ensures, first-within 47 c.args.cell.now)))

pub returns-then-begins_two : goal.returns-then-begins_two
unfolding is_windowed either_two
returns-then-begins_two c =
    simp (← c.has_x.ensures, c.if-has_x.false, ← c.find-slash.ensures, ← c.begins_two.ensures, c.if-begins_two.true)

pub returns-then-slash-cell : goal.returns-then-slash-cell
unfolding is_windowed either_two
returns-then-slash-cell c =
    let s = c.args.cell.now in
    let e = rw (rest s (c.find-slash.result + 1)) at c.begins_two-then-slash-cell.ensures in
    simp (← c.has_x.ensures, c.if-has_x.false, ← c.find-slash.ensures, ← c.begins_two.ensures, c.if-begins_two.false, ← e)

pub returns : goal.returns
unfolding is_windowed either_two
returns c =
    let s = c.args.cell.now in
    simp (← c.has_x.ensures, c.if-has_x.false, ← c.find-slash.ensures, ← c.begins_two.ensures, c.if-begins_two.false, past_two s (c.find-slash.result + 1) (omega arith))
