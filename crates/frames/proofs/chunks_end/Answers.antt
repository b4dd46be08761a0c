use mathlib.Core.Path.{◌≡◌, sym, ◌∙◌}
use Prim.Native.Nat.{ℕ, ◌+◌, ◌-◌, ◌<◌}
use native.Mathlib.Omega.{arith}
use Rattle.frames.proofs.Places.{end-next, end_none}
use Rattle.frames.proofs.chunks_end.Goals as goal

pub loop-i-preserved : goal.loop-i-preserved
loop-i-preserved c =
    let l = c.loop-i in
    let left : ℕ = c.args.n - l._i in
    let h : 0 < left = omega arith in
    let g : left - 1 ≡ c.args.n - (l._i + 1) = omega arith in
    let e : l.p + (10 + c.byte_at-len.result) ≡ l.p + 10 + c.byte_at-len.result = omega arith in
    (rw (e, c.byte_at-len.ensures) (rw g at (sym (end-next c.args.f.now l.p left h))) ∙ l.invariant.0, omega arith)

pub returns : goal.returns
returns c =
    let l = c.loop-i in
    (sym (sym l.invariant.0 ∙ end_none c.args.f.now l.p (c.args.n - l._i) (omega arith)), omega arith)
