use mir.Syntax.{w32}
use mir.ValLaws.{to_z-of_z}
use mathlib.Core.Path.{sym, ◌∙◌}
use Rattle.strict.proofs.Runs.{nine-digits}
use Rattle.strict.proofs.Long.{long-is, nought-first, too_many, too_few}
use Rattle.strict.proofs.long_at.Goals as goal

pub signed_long-requires : goal.signed_long-requires
signed_long-requires c =
    nine-digits _ _ c.digits_at-d.ensures.count_bound.1 c.if-d-le9.true

pub returns-then-byte_at-ne48 : goal.returns-then-byte_at-ne48
returns-then-byte_at-ne48 c =
    let a = c.args in
    let l = c.signed_long in
    let n = rw (to_z-of_z w32 l.result (record { sfits = l.type_inv })) at c.new.ensures in
    simp (n, l.ensures) (long-is a.s.now a.at a.negative c.digits_at-d.ensures.count_value c.digits_at-d.ensures.number_value c.if-d-ge5.true c.if-d-le9.true (λ z. c.if-byte_at-ne48.true (c.byte_at.ensures ∙ z)))

pub returns-else-byte_at-ne48 : goal.returns-else-byte_at-ne48
returns-else-byte_at-ne48 c =
    let a = c.args in
    nought-first a.s.now a.at a.negative c.digits_at-d.ensures.count_value c.if-d-ge5.true c.if-d-le9.true (sym c.byte_at.ensures ∙ c.if-byte_at-ne48.false)

pub returns-else-d-le9 : goal.returns-else-d-le9
returns-else-d-le9 c =
    let a = c.args in
    too_many a.s.now a.at a.negative c.digits_at-d.ensures.count_value c.if-d-ge5.true c.if-d-le9.false

pub returns-else-d-ge5 : goal.returns-else-d-ge5
returns-else-d-ge5 c =
    let a = c.args in
    too_few a.s.now a.at a.negative c.digits_at-d.ensures.count_value c.if-d-ge5.false
