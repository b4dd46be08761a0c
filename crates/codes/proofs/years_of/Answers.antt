use borrow.Author.Tests.{lt-ltb, le-ltb}
use Rattle.codes.specs.Ported.{years_of}
use Rattle.chars.specs.Pick.{pick}
use mathlib.Core.Path.{ap, ◌∙◌}
use Prim.Native.Nat.{ℕ, ◌+◌, ◌*◌}
use Rattle.codes.specs.Words.{words}
use Rattle.codes.proofs.Years.{between-years}
use borrow.Author.Rules.{rules}
use Rattle.codes.proofs.years_of.Goals as goal

pub returns-then-n-lt100 : goal.returns-then-n-lt100
unfolding years_of pick
returns-then-n-lt100 c =
    let n = c.two-n in
    rw (← c.is_unknown.ensures, c.if-is_unknown.true, ← n.ensures.0, lt-ltb n.result 100 c.if-n-lt100.true)
    (c.between_words.ensures ∙ ap (λ (y : ℕ). words 0 0 (y * 100) 0 (y * 100 + 99) 0 3) c.wide_part-y.ensures ∙ between-years (n.result * 100) (n.result * 100 + 99))

pub returns-then-is_unknown : goal.returns-then-is_unknown
unfolding years_of pick
returns-then-is_unknown c =
    simp (← c.is_unknown.ensures, c.if-is_unknown.true, ← c.two-n.ensures.0, le-ltb _ _ c.if-n-lt100.false, c.no_words.ensures)

pub returns : goal.returns
unfolding years_of pick
returns c =
    simp (← c.is_unknown.ensures, c.if-is_unknown.false, c.no_words-2.ensures)
