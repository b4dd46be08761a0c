use mathlib.Core.Path.{sym, ◌∙◌}
use Prim.Native.Nat.{◌+◌, ◌*◌}
use native.Mathlib.Omega.{arith}
use lib.ListN.{length}
use borrow.Author.Tests.{ltb-true, ltb-false}
use Rattle.puts.proofs.Puts.{with-room, without-room, tried-as}
use Rattle.answers.specs.Coded.{one_coded, two_coded}
use Rattle.answers.proofs.Coded.{length-one-coded, length-two-coded, one_line, two-line}
use borrow.Author.Rules.{rules}
use Rattle.answers.proofs.put_words.Goals as goal

pub returns-then-is_short : goal.returns-then-is_short
returns-then-is_short c =
    let a = c.args in
    let t = a.text.now in
    let h = ltb-true (length a.out.now) (2 * (29 + length t) + 1) (sym c.is_short.ensures ∙ c.if-is_short.true) in
    tried-as (sym (two-line a.w t c.if-w-eq3.true)) (without-room (two_coded a.w t) a.out.now 0 (omega (arith, length-two-coded a.w t, h)))

pub put_two_coded-requires : goal.put_two_coded-requires
put_two_coded-requires c =
    let a = c.args in
    ltb-false (length a.out.now) (2 * (29 + length a.text.now) + 1) (sym c.is_short.ensures ∙ c.if-is_short.false)

pub returns-then-w-eq3 : goal.returns-then-w-eq3
returns-then-w-eq3 c =
    let a = c.args in
    let t = a.text.now in
    let h = ltb-false (length a.out.now) (2 * (29 + length t) + 1) (sym c.is_short.ensures ∙ c.if-is_short.false) in
    tried-as (sym (two-line a.w t c.if-w-eq3.true)) (with-room (omega (arith, length-two-coded a.w t, h)) c.put_two_coded.ensures)

pub returns-then-is_short-2 : goal.returns-then-is_short-2
returns-then-is_short-2 c =
    let a = c.args in
    let t = a.text.now in
    let h = ltb-true (length a.out.now) (2 * (16 + length t) + 1) (sym c.is_short-2.ensures ∙ c.if-is_short-2.true) in
    tried-as (sym (one_line a.w t c.if-w-eq3.false)) (without-room (one_coded a.w t) a.out.now 0 (omega (arith, length-one-coded a.w t, h)))

pub put_one_coded-requires : goal.put_one_coded-requires
put_one_coded-requires c =
    let a = c.args in
    ltb-false (length a.out.now) (2 * (16 + length a.text.now) + 1) (sym c.is_short-2.ensures ∙ c.if-is_short-2.false)

pub returns : goal.returns
returns c =
    let a = c.args in
    let t = a.text.now in
    let h = ltb-false (length a.out.now) (2 * (16 + length t) + 1) (sym c.is_short-2.ensures ∙ c.if-is_short-2.false) in
    tried-as (sym (one_line a.w t c.if-w-eq3.false)) (with-room (omega (arith, length-one-coded a.w t, h)) c.put_one_coded.ensures)
