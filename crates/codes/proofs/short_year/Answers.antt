use borrow.Author.Tests.{lt-ltb, le-ltb}
use Rattle.codes.specs.Ported.{short_year}
use Rattle.chars.specs.Pick.{pick}
use mathlib.Core.Path.{ap, ◌∙◌}
use Prim.Native.Nat.{ℕ}
use lib.IntN.{pos}
use Rattle.points.specs.Point.{windowed}
use Rattle.codes.specs.Words.{words}
use Rattle.codes.proofs.Years.{at-year}
use borrow.Author.Rules.{rules}
use Rattle.codes.proofs.short_year.Goals as goal

pub returns-then-n-lt100 : goal.returns-then-n-lt100
unfolding short_year pick
returns-then-n-lt100 c =
    let n = c.two-n in
    rw (← n.ensures.0, lt-ltb n.result 100 c.if-n-lt100.true) (c.at_word.ensures ∙ ap (λ (y : ℕ). words 0 0 y 0 0 0 0) c.near_2000.ensures ∙ at-year (windowed (pos n.result)))

pub returns : goal.returns
unfolding short_year pick
returns c =
    simp (← c.two-n.ensures.0, le-ltb _ _ c.if-n-lt100.false, c.no_words.ensures)
