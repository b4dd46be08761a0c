use Rattle.verdicts.specs.Dates.{date_verdict}
use Rattle.chars.specs.Pick.{pick}
use borrow.Author.Tests.{eq-eqb}
use Rattle.verdicts.proofs.Said.{full-said, readers-said}
use Rattle.verdicts.proofs.date_verdict.Goals as goal

pub returns-then-cell-eq0 : goal.returns-then-cell-eq0
unfolding date_verdict pick
returns-then-cell-eq0 c = simp (eq-eqb _ _ c.if-cell-eq0.true)

pub returns-then-w-lt3 : goal.returns-then-w-lt3
returns-then-w-lt3 c =
    full-said c.args.cell.now c.if-cell-eq0.false (rw c.table_of-table.ensures at c.parse_strict_words-w.ensures.value) c.if-w-lt4294967296.true c.if-w-lt3.true

pub returns : goal.returns
returns c =
    readers-said c.args.cell.now c.if-cell-eq0.false (rw c.table_of-table.ensures at c.parse_strict_words-w.ensures.value) (rw c.table_of-table.ensures at c.parse_strict_words-w.ensures.typed) c.unpack.ensures (rw c.table_of-table.ensures at c.parse.ensures) c.by_readers.ensures
