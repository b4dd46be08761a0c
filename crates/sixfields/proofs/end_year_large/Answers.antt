use Rattle.chunks.proofs.Buffers.{large-room}
use Rattle.sixfields.proofs.end_year_large.Goals as goal

pub end_year_in-requires : goal.end_year_in-requires
end_year_in-requires c =
    let a = c.args in
    large-room a.year.bytes.now a.year.table.now
