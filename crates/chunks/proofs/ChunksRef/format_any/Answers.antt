use Rattle.chunks.specs.Format.{formatted}
use Rattle.chunks.specs.Answer.{text_of}
use Rattle.chunks.specs.Upper.{uppercase}
use Rattle.chunks.proofs.Answers.{raised-text, plain-as-is, same-long, no_room, clean-fits, clean-faultless, faulted, raised, room-is, texted, upper-same}
use lib.Seq.{length-take-le, sets}
use native.Mathlib.Omega.{arith}
use mathlib.Core.Path.{sym, ap, ◌∙◌, ◌≡◌}
use borrow.Author.Rules.{rules}
use Rattle.std.proofs.lemmas.Result.{err_from_is_err_and}
use Rattle.chunks.proofs.ChunksRef.format_any.Goals as goal

pub returns-then-buf-self : goal.returns-then-buf-self
returns-then-buf-self c =
    let a = c.args in
    let both = no_room a.self.bytes.now a.self.table.now a.upper a.buf.now (sym c.check.ensures ∙ c.in_ok-check.was) (omega (arith, room-is a.self.bytes.now a.self.table.now)) c.nowhere.ensures in record { value = both.0; buf_after = both.1 }

pub put_list-n-requires : goal.put_list-n-requires
put_list-n-requires c =
    let a = c.args in
    let h = sym c.check.ensures ∙ c.in_ok-check.was in
    record { table_value = clean-fits a.self.bytes.now a.self.table.now h; table_in_bounds = omega (arith, room-is a.self.bytes.now a.self.table.now); table_value_2 = clean-faultless a.self.bytes.now a.self.table.now h }

pub slice_bounds-upper_all-end-then-upper : goal.slice_bounds-upper_all-end-then-upper
slice_bounds-upper_all-end-then-upper c =
    let e = c.put_list-n.ensures in
    sym (length-take-le _ _ (omega (arith, e, c.put_list-n.auto.buf)))

pub returns-in_err-check : goal.returns-in_err-check
returns-in_err-check c =
    let a = c.args in
    let p = err_from_is_err_and c.from_residual.result c.from_residual.ensures.1 in
    let both = faulted a.self.bytes.now a.self.table.now a.upper a.buf.now (sym c.check.ensures ∙ c.in_err-check.was) in
    record { value = rw (p.1, p.2) both.0; buf_after = rw (p.1, p.2) both.1 }

pub returns-then-upper : goal.returns-then-upper
returns-then-upper c =
    let a = c.args in
    let b = a.self.bytes.now in
    let t = a.self.table.now in
    let h = (sym c.check.ensures ∙ c.in_ok-check.was) in
    let e = c.put_list-n.ensures in
    let up : text_of a.upper b t ≡ uppercase (formatted b t) = raised-text b t c.if-upper.true in
    let n = upper-same b t h in
    let both = texted b t a.upper a.buf.now _ _ h (omega (arith, room-is b t)) (e.0 ∙ sym (same-long b t a.upper h))
    (raised a.buf.now _ _ (formatted b t) _ e.0 (omega (arith, e.0, e.2)) e.1 n c.upper_all.ensures ∙ ap (sets a.buf.now 0) (sym up)) in record { value = both.0; buf_after = both.1 }

pub returns-else-upper : goal.returns-else-upper
returns-else-upper c =
    let a = c.args in
    let b = a.self.bytes.now in
    let t = a.self.table.now in
    let h = (sym c.check.ensures ∙ c.in_ok-check.was) in
    let e = c.put_list-n.ensures in
    let as_is : text_of a.upper b t ≡ formatted b t = plain-as-is b t c.if-upper.false in
    let both = texted b t a.upper a.buf.now _ _ h (omega (arith, room-is b t)) (e.0 ∙ sym (same-long b t a.upper h)) (e.1 ∙ ap (sets a.buf.now 0) (sym as_is)) in record { value = both.0; buf_after = both.1 }
