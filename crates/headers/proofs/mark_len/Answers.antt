use native.Mathlib.Omega.{arith}
use Rattle.chars.specs.Pick.{pick}
use Rattle.headers.specs.Header.{mark_len}
use borrow.Author.Tests.{le-leb, lt-leb, eq-eqb, ne_eqb}
use borrow.Author.Rules.{rules}
use Rattle.headers.proofs.mark_len.Goals as goal

pub returns-then-s-3 : goal.returns-then-s-3
unfolding mark_len pick
returns-then-s-3 c =
    (simp (le-leb _ _ c.if-s-ge3.true, eq-eqb _ _ c.if-s.true, eq-eqb _ _ c.if-s-2.true, eq-eqb _ _ c.if-s-3.true), omega arith, omega arith)

pub returns-then-s-2 : goal.returns-then-s-2
unfolding mark_len pick
returns-then-s-2 c =
    (simp (le-leb _ _ c.if-s-ge3.true, eq-eqb _ _ c.if-s.true, eq-eqb _ _ c.if-s-2.true, ne_eqb _ _ c.if-s-3.false), omega arith, omega arith)

pub returns-then-s : goal.returns-then-s
unfolding mark_len pick
returns-then-s c =
    (simp (le-leb _ _ c.if-s-ge3.true, eq-eqb _ _ c.if-s.true, ne_eqb _ _ c.if-s-2.false), omega arith, omega arith)

pub returns-then-s-ge3 : goal.returns-then-s-ge3
unfolding mark_len pick
returns-then-s-ge3 c =
    (simp (le-leb _ _ c.if-s-ge3.true, ne_eqb _ _ c.if-s.false), omega arith, omega arith)

pub returns : goal.returns
unfolding mark_len pick
returns c = (simp (lt-leb _ _ c.if-s-ge3.false), omega arith, omega arith)
