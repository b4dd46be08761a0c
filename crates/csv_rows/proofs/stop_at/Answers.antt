use borrow.Author.Tests.{eq-eqb, ne_eqb}
use Rattle.chars.specs.Pick.{pick}
use Rattle.csv_rows.specs.Reader.{stop_of}
use Rattle.csv_rows.proofs.Laws.{front, past}
use borrow.Author.Rules.{rules}
use Rattle.csv_rows.proofs.stop_at.Goals as goal

pub returns-then-is_stop : goal.returns-then-is_stop
unfolding stop_of pick
returns-then-is_stop c =
    let a = c.args in
    rw (front a.s.now a.at c.if-at-s.true, ← c.is_stop.ensures, c.if-is_stop.true)

pub returns-then-b-eq13 : goal.returns-then-b-eq13
unfolding stop_of pick
returns-then-b-eq13 c =
    let a = c.args in
    rw (front a.s.now a.at c.if-at-s.true, ← c.is_stop.ensures, c.if-is_stop.false, eq-eqb _ _ c.if-b-eq13.true) c.return_at.ensures

pub returns-then-at-s : goal.returns-then-at-s
unfolding stop_of pick
returns-then-at-s c =
    let a = c.args in
    rw (front a.s.now a.at c.if-at-s.true, ← c.is_stop.ensures, c.if-is_stop.false, ne_eqb _ _ c.if-b-eq13.false)

pub returns-then-over : goal.returns-then-over
unfolding stop_of pick
returns-then-over c = let a = c.args in rw (past a.s.now a.at c.if-at-s.false, c.if-over.true)

pub returns : goal.returns
unfolding stop_of pick
returns c = let a = c.args in rw (past a.s.now a.at c.if-at-s.false, c.if-over.false)
