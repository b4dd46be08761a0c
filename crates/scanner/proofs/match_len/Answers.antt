use native.Mathlib.Omega.{arith}
use Rattle.chars.specs.Pick.{pick}
use Rattle.scanner.proofs.Laws.{match-end, match-ascii}
use mathlib.Core.Path.{sym}
use borrow.Author.Rules.{rules}
use Rattle.scanner.proofs.match_len.Goals as goal

pub returns-then-in_class : goal.returns-then-in_class
unfolding pick
returns-then-in_class c =
    let a = c.args in
    let e = match-ascii a.class a.s.now a.at c.if-at-s.true c.if-b-lt128.true in
    simp (e, ← c.wide-code.ensures, ← c.in_class.ensures, c.if-in_class.true)

pub returns-then-b-lt128 : goal.returns-then-b-lt128
unfolding pick
returns-then-b-lt128 c =
    let a = c.args in
    let e = match-ascii a.class a.s.now a.at c.if-at-s.true c.if-b-lt128.true in
    simp (e, ← c.wide-code.ensures, ← c.in_class.ensures, c.if-in_class.false)

pub returns : goal.returns
returns c = sym (match-end _ _ _ c.if-at-s.false)
