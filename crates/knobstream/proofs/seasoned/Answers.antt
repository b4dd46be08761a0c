use mathlib.Core.Bool.{false≢true}
use mathlib.Core.Path.{sym}
use borrow.Author.Tests.{eqb-true, not-false}
use lib.Dec.{eqb}
use borrow.Author.Rules.{rules}
use Rattle.knobstream.proofs.seasoned.Goals as goal

pub returns-then-first-ne0 : goal.returns-then-first-ne0
returns-then-first-ne0 c = λ e. absurd (false≢true (sym e))

pub returns : goal.returns
returns c =
    λ e. (c.if-first-ne0.false, λ h. eqb-true c.args.second 0 (not-false (eqb c.args.second 0) e))
