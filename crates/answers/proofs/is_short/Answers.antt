use mathlib.Core.Path.{sym, ◌∙◌}
use Prim.Native.Nat.{◌+◌, ◌*◌}
use native.Mathlib.Omega.{arith}
use lib.Dec.{ltb}
use borrow.Author.Tests.{lt-ltb, le-ltb, ltb-true, ltb-false}
use Rattle.chars.proofs.Cases.{of_test}
use borrow.Author.Rules.{rules}
use Rattle.answers.proofs.is_short.Goals as goal

-- src/lib.rt:269:9
pub returns-then-room-least : goal.returns-then-room-least
returns-then-room-least c = let a = c.args in sym (lt-ltb a.room (2 * (a.bytes + a.text) + 1) (omega (arith, c.if-room-least.true)))

-- src/lib.rt:263:1
pub returns : goal.returns
returns c =
    let a = c.args in
    of_test (ltb a.room (2 * (a.bytes + a.text) + 1))
    (λ t. lt-ltb _ a.text (let h = ltb-true a.room _ t in omega (arith, c.if-room-least.false, c.requires)) ∙ sym t)
    (λ t. le-ltb _ a.text (let h = ltb-false a.room _ t in omega (arith, c.if-room-least.false, c.requires)) ∙ sym t)
