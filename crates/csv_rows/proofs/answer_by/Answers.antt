use Rattle.chars.specs.Pick.{pick}
use Rattle.csv_rows.specs.Answers.{place_of, answer_by}
use Rattle.csv_rows.specs.Scans.{end_place}
use borrow.Author.Rules.{rules}
use native.Mathlib.Omega.{arith}
use Rattle.csv_rows.proofs.answer_by.Goals as goal

pub row_by-requires : goal.row_by-requires
unfolding end_place
row_by-requires c = let h = rw c.in-Through.is at c.requires.0 in omega arith

pub refuse-requires : goal.refuse-requires
unfolding end_place
refuse-requires c = rw c.in-Fails.is at c.requires.0

pub refuse-requires-then-cut : goal.refuse-requires-then-cut
unfolding end_place place_of
refuse-requires-then-cut c = rw c.in-Open.is at c.requires.0

pub returns-then-cut : goal.returns-then-cut
unfolding answer_by pick
returns-then-cut c = rw (c.in-Open.is, c.if-cut.true) (rw c.if-cut.true at c.refuse-then-cut.ensures)

pub returns-in-Through : goal.returns-in-Through
unfolding answer_by
returns-in-Through c = rw c.in-Through.is c.row_by.ensures

pub returns-in-Fails : goal.returns-in-Fails
unfolding answer_by
returns-in-Fails c = rw c.in-Fails.is c.refuse.ensures

pub returns-else-cut : goal.returns-else-cut
unfolding answer_by pick
returns-else-cut c = rw (c.in-Open.is, c.if-cut.false)
