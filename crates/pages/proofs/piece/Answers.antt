use Rattle.chunks.proofs.Buffers.{large-room}
use borrow.Author.Rules.{rules}
use Rattle.pages.proofs.piece.Goals as goal

pub piece_in-requires : goal.piece_in-requires
piece_in-requires c = let a = c.args in large-room a.list.bytes.now a.list.table.now
