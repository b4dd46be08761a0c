use Rattle.chunks.proofs.Buffers.{large-room, small-room}
use Rattle.chunks.proofs.Standing.{stands-clean, stands-text}
use Rattle.reading_laws.proofs.Entries.{exact-clean}
use mathlib.Core.Bool.{false}
use mathlib.Core.Path.{sym, ◌∙◌}
use borrow.Author.Rules.{rules}
use Rattle.reader.proofs.parse_by.Goals as goal

pub returns-then-stands : goal.returns-then-stands
returns-then-stands c =
    let a = c.args in
    let b = a.list.bytes.now in
    let t = a.list.table.now in
    let s = sym c.stands.ensures ∙ c.if-stands.true in
    c.match_by.ensures ∙ exact-clean b t a.level (stands-clean false b t s) (sym (stands-text false b t s))

pub parse_by_in-requires : goal.parse_by_in-requires
parse_by_in-requires c = let a = c.args in small-room a.list.bytes.now a.list.table.now c.if-list-le56.true c.if-list-le16.true

pub parse_by_in-requires-2 : goal.parse_by_in-requires-2
parse_by_in-requires-2 c = let a = c.args in large-room a.list.bytes.now a.list.table.now
