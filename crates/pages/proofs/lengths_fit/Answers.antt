use Rattle.pages.proofs.Sums.{lengths-over, lengths-on, lengths-end}
use Prim.Native.Nat.{◌+◌, ◌*◌}
use native.Mathlib.Omega.{arith}
use mathlib.Core.Path.{◌≡◌, sym, ◌∙◌}
use Rattle.pages.proofs.lengths_fit.Goals as goal

pub returns-then-left-len : goal.returns-then-left-len
returns-then-left-len c =
    let l = c.loop-k in
    sym (lengths-over c.args.table.now (4 * l.k) l.left (omega arith) c.if-left-len.true) ∙ l.invariant

pub loop-k-preserved : goal.loop-k-preserved
loop-k-preserved c =
    let l = c.loop-k in
    let next : 4 * (l.k + 1) ≡ 4 * l.k + 4 = omega arith in
    rw next (sym (lengths-on c.args.table.now (4 * l.k) l.left (omega arith) c.if-left-len.false) ∙ l.invariant)

pub returns : goal.returns
returns c =
    let l = c.loop-k in
    lengths-end c.args.table.now (4 * l.k) l.left (omega (arith, c.requires)) ∙ l.invariant
