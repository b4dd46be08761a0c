use borrow.Author.Tests.{eq-eqb, ne_eqb}
use Rattle.chars.specs.Pick.{pick}
use Rattle.csv_rows.specs.Answers.{end_len}
use Rattle.csv_rows.proofs.Laws.{front, past}
use borrow.Author.Rules.{rules}
use Rattle.csv_rows.proofs.end_len.Goals as goal

pub returns-then-s-at-eq10 : goal.returns-then-s-at-eq10
unfolding end_len pick
returns-then-s-at-eq10 c =
    let a = c.args in
    rw (front a.s.now a.at c.if-at-s.true, eq-eqb _ _ c.if-s-at-eq10.true)

pub returns-then-at-s : goal.returns-then-at-s
unfolding end_len pick
returns-then-at-s c =
    let a = c.args in
    rw (front a.s.now a.at c.if-at-s.true, ne_eqb _ _ c.if-s-at-eq10.false)

pub returns : goal.returns
unfolding end_len
returns c = rw (past c.args.s.now c.args.at c.if-at-s.false)
