use mathlib.Core.Path.{sym, ◌∙◌}
use native.Mathlib.Omega.{arith}
use Rattle.frames.proofs.Parts.{three-of, formed-read, unformed-read}
use Rattle.frames.proofs.Said.{carried}
use borrow.Author.Rules.{rules}
use Rattle.frames.proofs.read_three.Goals as goal

pub three_fill-requires : goal.three_fill-requires
three_fill-requires c =
    let m = c.list_end-month_at.ensures in
    let d = c.optional_end-day_at.ensures in
    (m.0, rw (← m.0) d.0, omega (arith, m.1, d.1))

pub three_at-requires : goal.three_at-requires
three_at-requires c =
    let m = c.list_end-month_at.ensures in
    let d = c.optional_end-day_at.ensures in
    record { f_len_bound = (c.requires.0, sym c.three_fill.ensures ∙ c.if-three_fill.true, c.requires.1); month_at_value = (m.0, rw (← m.0) d.0, omega (arith, m.1, d.1)) }

pub returns-then-three_fill : goal.returns-then-three_fill
returns-then-three_fill c =
    let f = c.args.f.now in
    let both = carried (formed-read f c.requires.1 (three-of f ∙ sym c.three_fill.ensures ∙ c.if-three_fill.true)) (c.three_at.ensures.value, c.three_at.ensures.typed) in record { value = both.0; typed = both.1 }

pub returns : goal.returns
returns c =
    let f = c.args.f.now in
    let both = carried (unformed-read f c.requires.1 (three-of f ∙ sym c.three_fill.ensures ∙ c.if-three_fill.false)) (c.bad_frame.ensures.value, c.bad_frame.ensures.typed) in record { value = both.0; typed = both.1 }
