use Rattle.chunks.proofs.Tables.{count}
use Rattle.chunks.specs.Chunks.{is_short}
use borrow.Author.Tests.{le-leb, lt-leb}
use Rattle.chunks.proofs.ChunksRef.is_short.Goals as goal

pub returns-then-self-le64 : goal.returns-then-self-le64
unfolding is_short
returns-then-self-le64 c = rw (count c.args.self.table.now) (simp (le-leb _ _ c.if-self-le64.true))

pub returns : goal.returns
unfolding is_short
returns c = rw (count c.args.self.table.now) (simp (lt-leb _ _ c.if-self-le64.false))
