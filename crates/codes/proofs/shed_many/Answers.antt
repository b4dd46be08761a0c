use mathlib.Core.Path.{◌≡◌, sym, ap, ◌∙◌}
use Prim.Native.Nat.{ℕ, ◌+◌, ◌-◌, ◌≤◌}
use native.Mathlib.Omega.{arith}
use lib.ListN.{length, take}
use lib.Seq.{take-length}
use Rattle.codes.specs.Texts.{unspaced}
use Rattle.codes.proofs.shed_many.Goals as goal

pub loop-n-init : goal.loop-n-init
loop-n-init c = (ap unspaced (take-length _), omega arith)

pub loop-n-preserved : goal.loop-n-preserved
loop-n-preserved c =
    let l = c.loop-n in
    let s = c.args.s.now in
    let whole : l.n ≡ l.n - 16 + 16 = omega arith in
    (sym (c.are_spaces.ensures c.if-are_spaces.true) ∙ ap (λ (k : ℕ). unspaced (take k s)) (sym whole) ∙ l.invariant.0, omega arith)

pub returns-else-are_spaces : goal.returns-else-are_spaces
returns-else-are_spaces c = c.loop-n.invariant

pub returns : goal.returns
returns c = c.loop-n.invariant
