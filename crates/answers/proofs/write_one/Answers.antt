use mathlib.Core.Path.{sym, ap, ◌∙◌}
use Prim.Native.Nat.{ℕ, ◌+◌, ◌*◌}
use native.Mathlib.Omega.{arith}
use lib.Dec.{ltb}
use lib.ListN.{length}
use borrow.Author.Tests.{ltb-true, ltb-false}
use Rattle.answers.specs.Answer.{end_length}
use Rattle.answers.specs.Shapes.{one_line}
use Rattle.answers.proofs.Digits.{end-most, length-one}
use Rattle.answers.proofs.Lines.{no_line, line-done}
use borrow.Author.Rules.{rules}
use Rattle.answers.proofs.write_one.Goals as goal

pub overflow_add-end_length : goal.overflow_add-end_length
overflow_add-end_length c =
    omega (arith, c.end_length.ensures, end-most c.args.level)

pub is_short-requires : goal.is_short-requires
is_short-requires c =
    omega (arith, c.end_length.ensures, end-most c.args.level)

pub returns-then-is_short : goal.returns-then-is_short
returns-then-is_short c =
    let a = c.args in
    let t = a.text.now in
    let e = ap (λ (n : ℕ). ltb (length a.out.now) (2 * (3 + n + length t) + 1)) (sym c.end_length.ensures) in
    let h = ltb-true (length a.out.now) (2 * (3 + end_length a.level + length t) + 1) (e ∙ sym c.is_short.ensures ∙ c.if-is_short.true) in
    let both = no_line (one_line a.level a.shape a.marks a.d t) a.out.now (omega (arith, length-one a.level a.shape a.marks a.d t, h)) c.no_room.ensures in record { value = both.0; out_after = both.1 }

pub put_one-requires : goal.put_one-requires
put_one-requires c =
    let a = c.args in
    let t = a.text.now in
    let e = ap (λ (n : ℕ). ltb (length a.out.now) (2 * (3 + n + length t) + 1)) (sym c.end_length.ensures) in
    let h = ltb-false (length a.out.now) (2 * (3 + end_length a.level + length t) + 1) (e ∙ sym c.is_short.ensures ∙ c.if-is_short.false) in
    omega (arith, length-one a.level a.shape a.marks a.d t, h)

pub returns : goal.returns
returns c =
    let a = c.args in
    let t = a.text.now in
    let e = ap (λ (n : ℕ). ltb (length a.out.now) (2 * (3 + n + length t) + 1)) (sym c.end_length.ensures) in
    let h = ltb-false (length a.out.now) (2 * (3 + end_length a.level + length t) + 1) (e ∙ sym c.is_short.ensures ∙ c.if-is_short.false) in
    let both = line-done (one_line a.level a.shape a.marks a.d t) a.out.now (omega (arith, length-one a.level a.shape a.marks a.d t, h)) c.put_one.ensures in record { value = both.0; out_after = both.1 }
