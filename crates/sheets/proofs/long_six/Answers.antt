use Rattle.sheets.specs.Rows.{long_six}
use Rattle.sheets.proofs.long_six.Goals as goal

pub returns-then-is_long : goal.returns-then-is_long
unfolding long_six
returns-then-is_long c =
    simp (← c.is_long.ensures, c.if-is_long.true)

pub returns-then-is_long-2 : goal.returns-then-is_long-2
unfolding long_six
returns-then-is_long-2 c =
    simp (← c.is_long.ensures, c.if-is_long.false, ← c.is_long-2.ensures, c.if-is_long-2.true)

pub returns-then-is_long-3 : goal.returns-then-is_long-3
unfolding long_six
returns-then-is_long-3 c =
    simp (← c.is_long.ensures, c.if-is_long.false, ← c.is_long-2.ensures, c.if-is_long-2.false, ← c.is_long-3.ensures, c.if-is_long-3.true)

pub returns-then-is_long-4 : goal.returns-then-is_long-4
unfolding long_six
returns-then-is_long-4 c =
    simp (← c.is_long.ensures, c.if-is_long.false, ← c.is_long-2.ensures, c.if-is_long-2.false, ← c.is_long-3.ensures, c.if-is_long-3.false, ← c.is_long-4.ensures, c.if-is_long-4.true)

pub returns-then-is_long-5 : goal.returns-then-is_long-5
unfolding long_six
returns-then-is_long-5 c =
    simp (← c.is_long.ensures, c.if-is_long.false, ← c.is_long-2.ensures, c.if-is_long-2.false, ← c.is_long-3.ensures, c.if-is_long-3.false, ← c.is_long-4.ensures, c.if-is_long-4.false, ← c.is_long-5.ensures, c.if-is_long-5.true)

pub returns : goal.returns
unfolding long_six
returns c =
    simp (← c.is_long.ensures, c.if-is_long.false, ← c.is_long-2.ensures, c.if-is_long-2.false, ← c.is_long-3.ensures, c.if-is_long-3.false, ← c.is_long-4.ensures, c.if-is_long-4.false, ← c.is_long-5.ensures, c.if-is_long-5.false, ← c.is_long-6.ensures)
