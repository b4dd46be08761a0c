use Rattle.chars.specs.Pick.{pick}
use Rattle.headers.specs.Tables.{cell_at}
use borrow.Author.Tests.{lt-ltb, le-ltb}
use borrow.Author.Rules.{rules}
use Rattle.headers.proofs.cell.Goals as goal

pub returns-then-i-lt256 : goal.returns-then-i-lt256
unfolding cell_at pick
returns-then-i-lt256 c =
    simp (lt-ltb _ _ c.if-i-lt256.true, ← c.part.ensures)

pub returns : goal.returns
unfolding cell_at pick
returns c =
    simp (le-ltb _ _ c.if-i-lt256.false)
