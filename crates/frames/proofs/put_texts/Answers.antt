use mathlib.Core.Path.{◌≡◌, sym, ap, ◌∙◌}
use mathlib.Core.List.{List}
use Prim.Native.Nat.{ℕ, ◌+◌, ◌-◌, ◌<◌}
use native.Mathlib.Omega.{arith}
use lib.Seq.{sets}
use lib.ListN.{length}
use Rattle.frames.proofs.Places.{end-next, chunk_inside, next-text, text-more, no-texts, length_part}
use Rattle.frames.proofs.put_texts.Goals as goal

pub overflow_add-p : goal.overflow_add-p
overflow_add-p c =
    let a = chunk_inside c.args.f.now c.loop-i.p (c.args.n - c.loop-i._i) (omega arith) in
    omega (arith, a, c.loop-i.invariant.1)

pub overflow_add-p-in-loop-i : goal.overflow_add-p-in-loop-i
overflow_add-p-in-loop-i c =
    let a = chunk_inside c.args.f.now c.loop-i.p (c.args.n - c.loop-i._i) (omega arith) in
    omega (arith, a, c.loop-i.invariant.1)

pub put_part-j-requires : goal.put_part-j-requires
put_part-j-requires c =
    let a = chunk_inside c.args.f.now c.loop-i.p (c.args.n - c.loop-i._i) (omega arith) in
    (omega (arith, a, c.loop-i.invariant.1, c.byte_at-len.ensures), omega (arith, a, c.loop-i.invariant.1, c.loop-i.invariant.2, c.byte_at-len.ensures))

pub overflow_add-p-in-loop-i-3 : goal.overflow_add-p-in-loop-i-3
overflow_add-p-in-loop-i-3 c =
    let a = chunk_inside c.args.f.now c.loop-i.p (c.args.n - c.loop-i._i) (omega arith) in
    omega (arith, a, c.loop-i.invariant.1, c.byte_at-len.ensures)

pub loop-i-preserved : goal.loop-i-preserved
loop-i-preserved c =
    let q = c.put_part-j.ensures in
    let f = c.args.f.now in
    let l = c.loop-i in
    let left : ℕ = c.args.n - l._i in
    let h : 0 < left = omega arith in
    let g : left - 1 ≡ c.args.n - (l._i + 1) = omega arith in
    let a = chunk_inside f l.p left h in
    let w = length_part f (l.p + 10) c.byte_at-len.result (omega (arith, a, l.invariant.1, c.byte_at-len.ensures)) in
    let e : l.p + (10 + c.byte_at-len.result) ≡ l.p + 10 + c.byte_at-len.result = omega arith in (
      rw (q.bytes, q.behind, e, c.byte_at-len.ensures) (rw g at (next-text f l.text l.p left l.j h)) ∙ l.invariant.0,
      rw (e, c.byte_at-len.ensures) (rw g at (sym (end-next f l.p left h))) ∙ l.invariant.1,
      omega (arith, q.behind, w, l.invariant.2),
      rw (q.behind, e, c.byte_at-len.ensures) (let m = rw g at (text-more f l.p left h) in let i = l.invariant.3 in omega arith),
    )

pub returns : goal.returns
returns c =
    let l = c.loop-i in
    let n = no-texts c.args.f.now l.p (c.args.n - l._i) (omega arith) in
    record { behind = omega (arith, l.invariant.3, ap length n); bytes = ap (λ (u : List ℕ). sets l.text l.j u) (sym n) ∙ l.invariant.0 }
