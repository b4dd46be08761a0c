use Rattle.pages.proofs.Sums.{lengths-at, lengths_none}
use Prim.Native.Nat.{◌+◌, ◌*◌}
use native.Mathlib.Omega.{arith}
use mathlib.Core.Path.{◌≡◌}
use Rattle.pages.proofs.size.Goals as goal

pub overflow_add-sum-in-loop-k : goal.overflow_add-sum-in-loop-k
overflow_add-sum-in-loop-k c =
    let l = c.loop-k in
    omega (arith, lengths-at c.args.table.now (4 * l.k) (omega arith), l.invariant, c.requires.1)

pub loop-k-preserved : goal.loop-k-preserved
loop-k-preserved c =
    let l = c.loop-k in
    let next : 4 * (l.k + 1) ≡ 4 * l.k + 4 = omega arith in
    rw next (omega (arith, lengths-at c.args.table.now (4 * l.k) (omega arith), l.invariant))

pub returns : goal.returns
returns c =
    let l = c.loop-k in
    omega (arith, lengths_none c.args.table.now (4 * l.k) (omega (arith, c.requires.0)), l.invariant)
