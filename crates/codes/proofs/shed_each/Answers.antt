use mathlib.Core.Path.{◌≡◌, sym, ◌∙◌}
use Prim.Native.Nat.{◌+◌, ◌-◌}
use native.Mathlib.Omega.{arith}
use Rattle.codes.proofs.Spaces.{space-before, byte-before, none_before}
use Rattle.codes.proofs.shed_each.Goals as goal

pub loop-n-preserved : goal.loop-n-preserved
loop-n-preserved c =
    let l = c.loop-n in
    sym (space-before c.args.s.now l.n (omega arith) (omega arith) c.if-s-n-ne32.false) ∙ l.invariant

pub returns-then-s-n-ne32 : goal.returns-then-s-n-ne32
returns-then-s-n-ne32 c =
    let l = c.loop-n in
    let here : l.n - 1 + 1 ≡ l.n = omega arith in
    (rw here (sym (byte-before c.args.s.now l.n (omega arith) (omega arith) c.if-s-n-ne32.true) ∙ l.invariant), omega arith)

pub returns : goal.returns
returns c =
    let l = c.loop-n in
    let z : l.n ≡ 0 = omega arith in
    (none_before c.args.s.now 0 (omega arith) ∙ rw z at l.invariant, omega arith)
