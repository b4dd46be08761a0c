use Rattle.chars.specs.Pick.{pick}
use Rattle.csv_rows.specs.Bytes.{one_if}
use Rattle.csv_rows.proofs.one_if.Goals as goal

pub returns-then-b : goal.returns-then-b
unfolding one_if pick
returns-then-b c = simp c.if-b.true

pub returns : goal.returns
unfolding one_if pick
returns c = simp c.if-b.false
