use Rattle.csv_rows.proofs.Laws.{front, past}
use Rattle.csv_rows.specs.Reader.{is}
use borrow.Author.Rules.{rules}
use Rattle.csv_rows.proofs.is_at.Goals as goal

pub returns-then-at-s : goal.returns-then-at-s
unfolding is
returns-then-at-s c = rw (front c.args.s.now c.args.at c.if-at-s.true)

pub returns : goal.returns
unfolding is
returns c = rw (past c.args.s.now c.args.at c.if-at-s.false)
