use mathlib.Core.Path.{sym, ap, ◌∙◌}
use mathlib.Core.List.{List}
use Prim.Native.Nat.{ℕ, ◌+◌, ◌*◌}
use native.Mathlib.Omega.{arith}
use lib.Seq.{sets}
use Rattle.answers.proofs.Digits.{next-digits, no-digits, length-hex}
use Rattle.answers.proofs.put_hex.Goals as goal

pub loop-i-preserved : goal.loop-i-preserved
loop-i-preserved c =
    let a = c.args in
    let l = c.loop-i in
    rw (c.pair-d.ensures.0, c.pair-d.ensures.1) (next-digits a.t.now l.out a.at l.i c.loop-i-test.true) ∙ l.invariant

pub returns : goal.returns
returns c =
    let a = c.args in
    let l = c.loop-i in
    record {
      behind = omega (arith, length-hex a.t.now);
      bytes = ap (λ (u : List ℕ). sets l.out (a.at + 2 * l.i) u) (sym (no-digits a.t.now l.i c.loop-i-test.false)) ∙ l.invariant;
    }
