use borrow.Author.Tests.{eq-eqb, ne_eqb}
use Rattle.chars.specs.Pick.{pick}
use Rattle.csv_rows.specs.Reader.{return_of}
use Rattle.csv_rows.proofs.Laws.{front, past}
use borrow.Author.Rules.{rules}
use Rattle.csv_rows.proofs.return_at.Goals as goal

pub returns-then-s-at-eq10 : goal.returns-then-s-at-eq10
unfolding return_of pick
returns-then-s-at-eq10 c =
    let a = c.args in
    rw (front a.s.now a.at c.if-at-s.true, eq-eqb _ _ c.if-s-at-eq10.true)

pub returns-then-at-s : goal.returns-then-at-s
unfolding return_of pick
returns-then-at-s c =
    let a = c.args in
    rw (front a.s.now a.at c.if-at-s.true, ne_eqb _ _ c.if-s-at-eq10.false)

pub returns-then-over : goal.returns-then-over
unfolding return_of pick
returns-then-over c = let a = c.args in rw (past a.s.now a.at c.if-at-s.false, c.if-over.true)

pub returns : goal.returns
unfolding return_of pick
returns c = let a = c.args in rw (past a.s.now a.at c.if-at-s.false, c.if-over.false)
