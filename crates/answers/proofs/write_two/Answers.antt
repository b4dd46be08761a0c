use mathlib.Core.Path.{sym, ap, ◌∙◌}
use Prim.Native.Nat.{ℕ, ◌+◌, ◌*◌}
use native.Mathlib.Omega.{arith}
use lib.Dec.{ltb}
use lib.ListN.{length}
use borrow.Author.Tests.{ltb-true, ltb-false}
use Rattle.answers.specs.Answer.{end_length}
use Rattle.answers.specs.Shapes.{two_line}
use Rattle.answers.proofs.Digits.{end-most, length_two}
use Rattle.answers.proofs.Lines.{no_line, line-done}
use borrow.Author.Rules.{rules}
use Rattle.answers.proofs.write_two.Goals as goal

pub overflow_mul-end_length : goal.overflow_mul-end_length
overflow_mul-end_length c =
    omega (arith, c.end_length.ensures, end-most c.args.level)

pub overflow_add-end_length : goal.overflow_add-end_length
overflow_add-end_length c =
    omega (arith, c.end_length.ensures, end-most c.args.level)

pub is_short-requires : goal.is_short-requires
is_short-requires c =
    omega (arith, c.end_length.ensures, end-most c.args.level)

pub returns-then-is_short : goal.returns-then-is_short
returns-then-is_short c =
    let a = c.args in
    let t = a.text.now in
    let e = ap (λ (n : ℕ). ltb (length a.out.now) (2 * (3 + 2 * n + length t) + 1)) (sym c.end_length.ensures) in
    let h = ltb-true (length a.out.now) (2 * (3 + 2 * end_length a.level + length t) + 1) (e ∙ sym c.is_short.ensures ∙ c.if-is_short.true) in
    let both = no_line (two_line a.level a.marks a.a a.b t) a.out.now (omega (arith, length_two a.level a.marks a.a a.b t, h)) c.no_room.ensures in record { value = both.0; out_after = both.1 }

pub put_two-requires : goal.put_two-requires
put_two-requires c =
    let a = c.args in
    let t = a.text.now in
    let e = ap (λ (n : ℕ). ltb (length a.out.now) (2 * (3 + 2 * n + length t) + 1)) (sym c.end_length.ensures) in
    let h = ltb-false (length a.out.now) (2 * (3 + 2 * end_length a.level + length t) + 1) (e ∙ sym c.is_short.ensures ∙ c.if-is_short.false) in
    omega (arith, length_two a.level a.marks a.a a.b t, h)

pub returns : goal.returns
returns c =
    let a = c.args in
    let t = a.text.now in
    let e = ap (λ (n : ℕ). ltb (length a.out.now) (2 * (3 + 2 * n + length t) + 1)) (sym c.end_length.ensures) in
    let h = ltb-false (length a.out.now) (2 * (3 + 2 * end_length a.level + length t) + 1) (e ∙ sym c.is_short.ensures ∙ c.if-is_short.false) in
    let both = line-done (two_line a.level a.marks a.a a.b t) a.out.now (omega (arith, length_two a.level a.marks a.a a.b t, h)) c.put_two.ensures in record { value = both.0; out_after = both.1 }
