use borrow.Author.Tests.{le-leb, lt-leb, eq-eqb, ne_eqb}
use native.Mathlib.Omega.{arith}
use Rattle.chars.specs.Pick.{pick}
use Rattle.csv_rows.specs.Answers.{row_by, counted}
use Rattle.csv_rows.proofs.Replies.{end-most}
use borrow.Author.Rules.{rules}
use Rattle.csv_rows.proofs.row_by.Goals as goal

pub returns-then-s-eq0 : goal.returns-then-s-eq0
unfolding row_by counted pick
returns-then-s-eq0 c = simp (eq-eqb _ _ c.if-s-eq0.true)

pub overflow_add-end : goal.overflow_add-end
overflow_add-end c = let h = end-most _ _ c.end_len.ensures in omega arith

pub returns-then-count-le256 : goal.returns-then-count-le256
unfolding row_by counted pick
returns-then-count-le256 c =
    simp (ne_eqb _ _ c.if-s-eq0.false, ← c.end_len.ensures, le-leb _ _ c.if-count-le256.true)

pub returns : goal.returns
unfolding row_by counted pick
returns c =
    simp (ne_eqb _ _ c.if-s-eq0.false, ← c.end_len.ensures, lt-leb _ _ c.if-count-le256.false)
