use native.Mathlib.Omega.{arith}
use Rattle.scanner.proofs.Laws.{stop-ascii, not_white}
use mathlib.Core.Path.{sym}
use Rattle.scanner.specs.declared.Class.TheVariants.{Whitespace}
use borrow.Author.Rules.{rules}
use Rattle.scanner.proofs.eat_whitespace.Goals as goal

pub returns-then-b-lt128 : goal.returns-then-b-lt128
returns-then-b-lt128 c = let a = c.args in sym (stop-ascii Whitespace a.s.now a.c.0 c.if-at-s.true c.if-b-lt128.true (not_white _ (omega arith) c.if-b-lt128.true))
