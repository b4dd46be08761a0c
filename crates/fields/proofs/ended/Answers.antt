use mir.Syntax.{w32}
use mir.ValLaws.{to_z-of_z}
use Rattle.chars.specs.Pick.{pick}
use Rattle.fields.specs.Year.{ended}
use borrow.Author.Rules.{rules}
use Rattle.fields.proofs.ended.Goals as goal

pub returns-then-done : goal.returns-then-done
unfolding ended pick
returns-then-done c =
    simp (← c.done.ensures, c.if-done.true, to_z-of_z w32 c.args.year c.ranges.year)

pub returns : goal.returns
unfolding ended pick
returns c =
    simp (← c.done.ensures, c.if-done.false, ← c.refuse_text.ensures)
