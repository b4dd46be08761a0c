use Rattle.chunks.proofs.Lengths.{length-on, kind-unknown, length_over, length-end}
use Prim.Native.Nat.{◌+◌, ◌*◌}
use native.Mathlib.Omega.{arith}
use mathlib.Core.Path.{sym, ◌∙◌, ◌≡◌}
use Rattle.chunks.proofs.lengths_fit.Goals as goal

pub returns-then-kind-gt2 : goal.returns-then-kind-gt2
returns-then-kind-gt2 c =
    let l = c.loop-k in
    sym (kind-unknown c.args.table.now (4 * l.k) l.left (omega arith) c.if-kind-gt2.true) ∙ l.invariant

pub returns-then-left-len : goal.returns-then-left-len
returns-then-left-len c =
    let l = c.loop-k in
    sym (length_over c.args.table.now (4 * l.k) l.left (omega arith) c.if-left-len.true) ∙ l.invariant

pub loop-k-preserved : goal.loop-k-preserved
loop-k-preserved c =
    let l = c.loop-k in
    let next : 4 * (l.k + 1) ≡ 4 * l.k + 4 = omega arith in
    rw next (sym (length-on c.args.table.now (4 * l.k) l.left (omega arith) c.if-kind-gt2.false c.if-left-len.false) ∙ l.invariant)

pub returns : goal.returns
returns c =
    let l = c.loop-k in
    length-end c.args.table.now (4 * l.k) l.left (omega (arith, c.requires)) ∙ l.invariant
