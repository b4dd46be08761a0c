use Rattle.reader.proofs.Joins.{kind-math, length_over, length-on, length-end}
use Prim.Native.Nat.{◌+◌, ◌*◌}
use native.Mathlib.Omega.{arith}
use mathlib.Core.Path.{sym, ◌∙◌, ◌≡◌}
use Rattle.reader.proofs.lengths_join.Goals as goal

pub returns-then-kind-gt1 : goal.returns-then-kind-gt1
returns-then-kind-gt1 c =
    let l = c.loop-k in
    sym (kind-math c.args.table.now (4 * l.k) l.left (omega arith) c.if-kind-gt1.true) ∙ l.invariant

pub returns-then-left-len : goal.returns-then-left-len
returns-then-left-len c =
    let l = c.loop-k in
    sym (length_over c.args.table.now (4 * l.k) l.left (omega arith) c.if-left-len.true) ∙ l.invariant

pub loop-k-preserved : goal.loop-k-preserved
loop-k-preserved c =
    let l = c.loop-k in
    let next : 4 * (l.k + 1) ≡ 4 * l.k + 4 = omega arith in
    rw next (sym (length-on c.args.table.now (4 * l.k) l.left (omega arith) c.if-kind-gt1.false c.if-left-len.false) ∙ l.invariant)

pub returns : goal.returns
returns c =
    let l = c.loop-k in
    length-end c.args.table.now (4 * l.k) l.left (omega (arith, c.requires)) ∙ l.invariant
