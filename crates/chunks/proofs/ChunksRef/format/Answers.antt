use Rattle.chunks.proofs.Plains.{plainly, of_plain}
use Rattle.chunks.proofs.Answers.{no_room, texted}
use lib.Seq.{sets}
use lib.ListN.{length}
use native.Mathlib.Omega.{arith}
use mathlib.Core.Path.{sym, ap, ◌∙◌}
use borrow.Author.Rules.{rules}
use Rattle.chunks.proofs.ChunksRef.format.Goals as goal

pub returns-then-buf-self : goal.returns-then-buf-self
returns-then-buf-self c =
    let a = c.args in
    let p = plainly a.self.bytes.now a.self.table.now (of_plain a.self.bytes.now a.self.table.now (sym c.is_plain.ensures ∙ c.if-is_plain.true)) in
    let both = no_room a.self.bytes.now a.self.table.now a.upper a.buf.now p.clean (omega (arith, p.room)) c.nowhere.ensures in record { value = both.0; buf_after = both.1 }

pub put_plain-requires : goal.put_plain-requires
put_plain-requires c =
    let a = c.args in
    let p = of_plain a.self.bytes.now a.self.table.now (sym c.is_plain.ensures ∙ c.if-is_plain.true) in
    (omega arith, p.ascii)

pub returns-then-is_plain : goal.returns-then-is_plain
returns-then-is_plain c =
    let a = c.args in
    let p = plainly a.self.bytes.now a.self.table.now (of_plain a.self.bytes.now a.self.table.now (sym c.is_plain.ensures ∙ c.if-is_plain.true)) in
    let e = c.put_plain.ensures in
    let t = p.text a.upper in
    let both = texted a.self.bytes.now a.self.table.now a.upper a.buf.now _ _ p.clean (omega (arith, p.room)) (e.0 ∙ ap length (sym t)) (e.1 ∙ ap (sets a.buf.now 0) (sym t)) in record { value = both.0; buf_after = both.1 }
