use Rattle.sheets.specs.Rows.{any_long}
use Rattle.sheets.proofs.any_long.Goals as goal

pub returns-then-is_long : goal.returns-then-is_long
unfolding any_long
returns-then-is_long c =
    simp (← c.key_column.ensures, ← c.is_long.ensures, c.if-is_long.true)

pub returns-then-is_long-2 : goal.returns-then-is_long-2
unfolding any_long
returns-then-is_long-2 c =
    simp (← c.key_column.ensures, ← c.is_long.ensures, c.if-is_long.false, ← c.is_long-2.ensures, c.if-is_long-2.true)

pub returns-then-is_long-3 : goal.returns-then-is_long-3
unfolding any_long
returns-then-is_long-3 c =
    simp (← c.key_column.ensures, ← c.is_long.ensures, c.if-is_long.false, ← c.is_long-2.ensures, c.if-is_long-2.false, ← c.is_long-3.ensures, c.if-is_long-3.true)

pub returns-then-is_long-4 : goal.returns-then-is_long-4
unfolding any_long
returns-then-is_long-4 c =
    simp (← c.key_column.ensures, ← c.is_long.ensures, c.if-is_long.false, ← c.is_long-2.ensures, c.if-is_long-2.false, ← c.is_long-3.ensures, c.if-is_long-3.false, ← c.is_long-4.ensures, c.if-is_long-4.true)

pub returns-then-is_long-5 : goal.returns-then-is_long-5
unfolding any_long
returns-then-is_long-5 c =
    simp (← c.key_column.ensures, ← c.is_long.ensures, c.if-is_long.false, ← c.is_long-2.ensures, c.if-is_long-2.false, ← c.is_long-3.ensures, c.if-is_long-3.false, ← c.is_long-4.ensures, c.if-is_long-4.false, ← c.is_long-5.ensures, c.if-is_long-5.true)

pub returns : goal.returns
unfolding any_long
returns c =
    simp (← c.key_column.ensures, ← c.is_long.ensures, c.if-is_long.false, ← c.is_long-2.ensures, c.if-is_long-2.false, ← c.is_long-3.ensures, c.if-is_long-3.false, ← c.is_long-4.ensures, c.if-is_long-4.false, ← c.is_long-5.ensures, c.if-is_long-5.false, ← c.long_six.ensures)
