use mathlib.Core.Path.{◌≡◌}
use Prim.Native.Nat.{◌+◌, ◌≤◌}
use native.Mathlib.Omega.{arith}
use Rattle.csv_rows.proofs.Utf8.{feeds-go, one-most}
use Rattle.csv_rows.proofs.feeds_in.Goals as goal

small : (c : goal.After-one_if-n) → c.one_if-n.result ≤ 1
small c = one-most _ _ c.one_if-n.ensures

pub overflow_add-n : goal.overflow_add-n
overflow_add-n c = let h = small c in omega arith

pub loop-i-preserved : goal.loop-i-preserved
loop-i-preserved c =
    let l = c.loop-i in
    let a = c.args in
    let h = small c in
    let e : a.at + l.i + 1 ≡ a.at + (l.i + 1) = omega arith in
    (rw (← e) (feeds-go a.s.now (a.at + l.i) l.n c.one_if-n.result _ (omega arith) c.one_if-n.ensures l.invariant.0), omega arith)
