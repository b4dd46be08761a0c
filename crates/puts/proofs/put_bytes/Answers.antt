use mathlib.Core.Path.{sym, ◌∙◌}
use Rattle.puts.proofs.Puts.{with-room, without-room}
use borrow.Author.Tests.{leb-true, leb-false}
use borrow.Author.Rules.{rules}
use Rattle.puts.proofs.put_bytes.Goals as goal

pub copy-requires : goal.copy-requires
copy-requires c = leb-true _ _ (sym c.has_room.ensures ∙ c.if-has_room.true)

pub returns-then-has_room : goal.returns-then-has_room
returns-then-has_room c =
    with-room (leb-true _ _ (sym c.has_room.ensures ∙ c.if-has_room.true)) c.copy.ensures

pub returns : goal.returns
returns c =
    let a = c.args in
    without-room a.t.now a.out.now a.at (leb-false _ _ (sym c.has_room.ensures ∙ c.if-has_room.false))
