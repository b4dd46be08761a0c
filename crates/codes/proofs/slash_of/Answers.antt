use Rattle.chars.specs.Pick.{pick}
use Rattle.codes.specs.Texts.{slash_of}
use borrow.Author.Rules.{rules}
use Rattle.codes.proofs.slash_of.Goals as goal

pub returns-then-slash_at : goal.returns-then-slash_at
unfolding slash_of pick
returns-then-slash_at c = simp (← c.slash_at.ensures, c.if-slash_at.true)

pub returns-then-slash_at-2 : goal.returns-then-slash_at-2
unfolding slash_of pick
returns-then-slash_at-2 c =
    simp (← c.slash_at.ensures, c.if-slash_at.false, ← c.slash_at-2.ensures, c.if-slash_at-2.true)

pub returns-then-slash_at-3 : goal.returns-then-slash_at-3
unfolding slash_of pick
returns-then-slash_at-3 c =
    simp (← c.slash_at.ensures, c.if-slash_at.false, ← c.slash_at-2.ensures, c.if-slash_at-2.false, ← c.slash_at-3.ensures, c.if-slash_at-3.true)

pub returns : goal.returns
unfolding slash_of pick
returns c =
    simp (← c.slash_at.ensures, c.if-slash_at.false, ← c.slash_at-2.ensures, c.if-slash_at-2.false, ← c.slash_at-3.ensures, c.if-slash_at-3.false)
