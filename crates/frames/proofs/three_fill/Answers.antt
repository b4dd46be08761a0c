use mathlib.Core.Path.{◌≡◌}
use borrow.Author.Tests.{le-leb, lt-leb}
use Rattle.frames.specs.Frame.{three_fill}
use Rattle.frames.specs.Lists.{is_flag, optional_end}
use borrow.Author.Rules.{rules}
use Rattle.frames.proofs.three_fill.Goals as goal

pub returns-then-byte_at-le1-2 : goal.returns-then-byte_at-le1-2
unfolding three_fill is_flag
returns-then-byte_at-le1-2 c =
    let d : c.args.day_at ≡ optional_end c.args.f.now c.args.month_at = rw c.requires.0 c.requires.1 in
    simp (← c.requires.0, ← d, ← c.byte_at.ensures, ← c.byte_at-then-byte_at-le1.ensures, le-leb _ _ c.if-byte_at-le1.true, le-leb _ _ c.if-byte_at-le1-2.true, ← c.optional_end.ensures.0)

pub returns-else-byte_at-le1-2 : goal.returns-else-byte_at-le1-2
unfolding three_fill is_flag
returns-else-byte_at-le1-2 c =
    let d : c.args.day_at ≡ optional_end c.args.f.now c.args.month_at = rw c.requires.0 c.requires.1 in
    simp (← c.requires.0, ← d, ← c.byte_at.ensures, ← c.byte_at-then-byte_at-le1.ensures, le-leb _ _ c.if-byte_at-le1.true, lt-leb _ _ c.if-byte_at-le1-2.false)

pub returns-else-byte_at-le1 : goal.returns-else-byte_at-le1
unfolding three_fill is_flag
returns-else-byte_at-le1 c =
    simp (← c.requires.0, ← c.byte_at.ensures, lt-leb _ _ c.if-byte_at-le1.false)
