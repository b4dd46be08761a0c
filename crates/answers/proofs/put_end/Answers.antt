use mathlib.Core.Path.{ap, ◌∙◌}
use native.Mathlib.Omega.{arith}
use lib.ListN.{length, length-append}
use Rattle.answers.proofs.Digits.{hex-both, hex-room, hex-as, length-datetime, length-end, end-least, plain_end, season-end}
use borrow.Author.Rules.{rules}
use Rattle.answers.proofs.put_end.Goals as goal

pub put_hex-k-requires : goal.put_hex-k-requires
put_hex-k-requires c =
    let a = c.args in
    let e = ap length c.datetime_bytes.ensures ∙ length-datetime a.d in
    omega (arith, c.requires, e, length-end a.level a.d, end-least a.level)

pub put_hex-requires : goal.put_hex-requires
put_hex-requires c =
    let a = c.args in
    let r = hex-room _ c.put_hex-k.ensures in
    let e = season-end a.d c.if-level.true c.datetime_bytes.ensures c.season_number.ensures in
    let l = ap length e ∙ length-append c.datetime_bytes.result _ in
    omega (arith, c.requires, r.0, r.1, l)

pub returns-then-level : goal.returns-then-level
returns-then-level c =
    let a = c.args in
    hex-as (season-end a.d c.if-level.true c.datetime_bytes.ensures c.season_number.ensures) (hex-both _ _ c.put_hex-k.ensures c.put_hex.ensures)

pub returns : goal.returns
returns c =
    let a = c.args in
    hex-as (plain_end a.d c.if-level.false c.datetime_bytes.ensures) c.put_hex-k.ensures
