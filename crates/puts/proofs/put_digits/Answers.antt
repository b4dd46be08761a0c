use Prim.Native.Nat.{◌+◌}
use lib.ListN.{length}
use mathlib.Core.Path.{sym, ◌∙◌}
use Rattle.puts.specs.Numbers.{digits}
use Rattle.puts.proofs.Counts.{length_digits}
use Rattle.puts.proofs.Puts.{with-room, without-room}
use native.Mathlib.Omega.{arith}
use borrow.Author.Tests.{leb-true, leb-false}
use borrow.Author.Rules.{rules}
use Rattle.puts.proofs.put_digits.Goals as goal

pub digits_at-requires : goal.digits_at-requires
digits_at-requires c = leb-true _ _ (sym c.has_room.ensures ∙ c.if-has_room.true)

pub returns-then-has_room : goal.returns-then-has_room
returns-then-has_room c =
    let a = c.args in
    with-room (omega (arith, length_digits a.w a.n, leb-true (a.at + a.w) (length a.out.now) (sym c.has_room.ensures ∙ c.if-has_room.true))) c.digits_at.ensures

pub returns : goal.returns
returns c =
    let a = c.args in
    without-room (digits a.w a.n) a.out.now a.at (omega (arith, length_digits a.w a.n, leb-false (a.at + a.w) (length a.out.now) (sym c.has_room.ensures ∙ c.if-has_room.false)))
