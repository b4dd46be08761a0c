use mathlib.Core.Path.{◌≡◌, sym, ap, ◌∙◌}
use mathlib.Core.List.{List}
use Prim.Native.Nat.{ℕ, ◌+◌, ◌-◌, ◌<◌}
use native.Mathlib.Omega.{arith}
use lib.Seq.{sets}
use Rattle.frames.proofs.Places.{end-next, end-above, next_row, no_rows, length-row, length-table}
use Rattle.frames.proofs.put_rows.Goals as goal

pub put_row-j-requires : goal.put_row-j-requires
put_row-j-requires c =
    let a = end-above c.args.f.now c.loop-i.p (c.args.n - c.loop-i._i) in
    (omega (arith, a, c.loop-i.invariant.1), omega (arith, c.loop-i.invariant.2))

pub overflow_add-p : goal.overflow_add-p
overflow_add-p c =
    let a = end-above c.args.f.now c.loop-i.p (c.args.n - c.loop-i._i) in
    omega (arith, a, c.loop-i.invariant.1)

pub overflow_add-p-in-loop-i-2 : goal.overflow_add-p-in-loop-i-2
overflow_add-p-in-loop-i-2 c =
    let a = end-above c.args.f.now c.loop-i.p (c.args.n - c.loop-i._i) in
    omega (arith, a, c.loop-i.invariant.1)

pub loop-i-preserved : goal.loop-i-preserved
loop-i-preserved c =
    let f = c.args.f.now in
    let l = c.loop-i in
    let q = c.put_row-j.ensures in
    let left : ℕ = c.args.n - l._i in
    let h : 0 < left = omega arith in
    let g : left - 1 ≡ c.args.n - (l._i + 1) = omega arith in
    let n = length-row f l.p in
    let e : l.p + (10 + c.byte_at.result) ≡ l.p + 10 + c.byte_at.result = omega arith in (
      rw (q.bytes, q.behind, e, c.byte_at.ensures) (rw g at (next_row f l.table l.p left l.j h)) ∙ l.invariant.0,
      rw (e, c.byte_at.ensures) (rw g at (sym (end-next f l.p left h))) ∙ l.invariant.1,
      omega (arith, q.behind, n, l.invariant.2),
    )

pub returns : goal.returns
returns c =
    let l = c.loop-i in
    let n = length-table c.args.f.now c.args.at c.args.n in
    record { behind = omega (arith, n, l.invariant.2); bytes = ap (λ (u : List ℕ). sets l.table l.j u) (sym (no_rows c.args.f.now l.p (c.args.n - l._i) (omega arith))) ∙ l.invariant.0 }
