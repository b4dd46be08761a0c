use mathlib.Core.Path.{sym, ◌∙◌}
use native.Mathlib.Omega.{arith}
use borrow.Author.Rules.{rules}
use Rattle.scanner.proofs.Laws.{stop}
use Rattle.scanner.proofs.Blanks.{match-two}
use Rattle.scanner.specs.declared.Class.TheVariants.{Whitespace}
use Rattle.scanner.proofs.eat_blanks.Goals as goal

pub returns-then-b-eq32 : goal.returns-then-b-eq32
returns-then-b-eq32 c = c.eat_each.ensures ∙ c.eat_spaces.ensures

pub returns-then-b-lt224 : goal.returns-then-b-lt224
returns-then-b-lt224 c =
    let a = c.args in
    let e = c.byte_at-b.ensures in
    sym (stop Whitespace a.s.now a.at (match-two a.s.now a.at (omega (arith, e, c.if-b-ge195.true)) (omega (arith, e, c.if-b-lt224.true))))
