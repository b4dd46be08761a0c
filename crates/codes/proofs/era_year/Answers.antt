use borrow.Author.Tests.{lt-ltb, le-ltb}
use Rattle.codes.specs.Parts.{era_year}
use Rattle.chars.specs.Pick.{pick}
use native.Mathlib.Omega.{arith}
use borrow.Author.Rules.{rules}
use Rattle.codes.proofs.era_year.Goals as goal

pub returns-then-n-eq0 : goal.returns-then-n-eq0
unfolding era_year pick
returns-then-n-eq0 c = rw c.if-n-eq0.true

pub returns-then-n-lt10000 : goal.returns-then-n-lt10000
unfolding era_year pick
returns-then-n-lt10000 c =
    simp (lt-ltb 0 c.args.n (omega (arith, c.if-n-eq0.false)), lt-ltb _ _ c.if-n-lt10000.true, ← c.before_christ.ensures)

pub returns : goal.returns
unfolding era_year pick
returns c =
    simp (lt-ltb 0 c.args.n (omega (arith, c.if-n-eq0.false)), le-ltb _ _ c.if-n-lt10000.false)
