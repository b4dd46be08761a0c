use native.Mathlib.Omega.{arith}
use Rattle.chars.proofs.Below.{at}
use Rattle.scanner.proofs.Parts.{rest}
use Rattle.scanner.specs.Scan.{eat_text}
use Rattle.chars.specs.Pick.{pick}
use borrow.Author.Tests.{lt-leb, le-leb}
use borrow.Author.Rules.{rules}
use Rattle.scanner.proofs.eat_text.Goals as goal

pub returns-then-begins : goal.returns-then-begins
unfolding eat_text pick
returns-then-begins c = let a = c.args in let e = rw (rest a.s.now a.c.0) at c.begins.ensures in simp (le-leb _ _ c.if-at-s.true, ← e, c.if-begins.true)

pub returns-else-begins : goal.returns-else-begins
unfolding eat_text pick
returns-else-begins c = let a = c.args in let e = rw (rest a.s.now a.c.0) at c.begins.ensures in simp (le-leb _ _ c.if-at-s.true, ← e, c.if-begins.false)

pub returns-else-at-s : goal.returns-else-at-s
unfolding eat_text pick
returns-else-at-s c = simp (lt-leb _ _ c.if-at-s.false)
