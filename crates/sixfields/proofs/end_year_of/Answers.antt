use Rattle.chunks.proofs.Buffers.{small-room}
use borrow.Author.Rules.{rules}
use Rattle.sixfields.proofs.end_year_of.Goals as goal

pub end_year_in-requires : goal.end_year_in-requires
end_year_in-requires c =
    let a = c.args in
    small-room a.year.bytes.now a.year.table.now c.if-year-le56.true c.if-year-le16.true
