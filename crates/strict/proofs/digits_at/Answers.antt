use Prim.Native.Nat.{ℕ, ◌+◌, ◌-◌, ◌*◌}
use native.Mathlib.Omega.{arith}
use mathlib.Core.Path.{sym, ap, ◌∙◌, subst}
use lib.ListN.{drop}
use lib.Seq.{get_or-drop}
use Rattle.chars.specs.Classes.{is_ascii_digit}
use Rattle.strict.proofs.Digits.{digit}
use Rattle.strict.proofs.Runs.{Taken, none_yet, one_more, all-taken, ten-taken}
use Rattle.strict.proofs.digits_at.Goals as goal

pub loop-n-init : goal.loop-n-init
loop-n-init c = none_yet _

pub returns-then-not-is_digit-clause-count_value : goal.returns-then-not-is_digit-clause-count_value
returns-then-not-is_digit-clause-count_value c =
    let a = c.args in
    let l = c.loop-n in
    let e = c.byte_at-c.ensures ∙ sym (get_or-drop a.at a.s.now l.n 0) in
    all-taken l.invariant (ap is_ascii_digit (sym e) ∙ sym c.is_digit.ensures ∙ c.if-not-is_digit.true)

pub overflow_sub-v : goal.overflow_sub-v
overflow_sub-v c = omega (arith, digit _ (sym c.is_digit.ensures ∙ c.if-not-is_digit.false))

pub loop-n-preserved : goal.loop-n-preserved
loop-n-preserved c =
    let a = c.args in
    let l = c.loop-n in
    let e = c.byte_at-c.ensures ∙ sym (get_or-drop a.at a.s.now l.n 0) in
    subst (λ (x : ℕ). Taken (drop a.at a.s.now) (l.n + 1) (l.v * 10 + (x - 48))) (sym e)
    (one_more l.invariant c.loop-n-test.true (ap is_ascii_digit (sym e) ∙ sym c.is_digit.ensures ∙ c.if-not-is_digit.false))

pub returns-clause-count_value : goal.returns-clause-count_value
returns-clause-count_value c = omega (arith, ten-taken c.loop-n.invariant c.loop-n-test.false)
