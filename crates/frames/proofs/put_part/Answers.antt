use mathlib.Core.Path.{◌≡◌, sym, ap, ◌∙◌}
use Prim.Native.Nat.{ℕ, ◌+◌, ◌-◌}
use native.Mathlib.Omega.{arith}
use Rattle.hexes.proofs.Laws.{put-part}
use Rattle.frames.specs.Lists.{part_at}
use Rattle.frames.proofs.Places.{length_part}
use Rattle.frames.proofs.put_part.Goals as goal

pub returns : goal.returns
returns c =
    let a = c.args in
    let part = part_at a.f.now a.from a.n in
    let n = length_part a.f.now a.from a.n c.requires.0 in
    let e : a.from + a.n - a.from ≡ a.n = omega arith in
    let same : c.copy_from_slice.new.self ≡ part = c.copy_from_slice.ensures.after ∙ ap (λ (x : ℕ). part_at a.f.now a.from x) e in
    record { behind = ap (λ (x : ℕ). a.m + x) (sym n); bytes = put-part a.text.now c.copy_from_slice.new.self part a.m (a.m + a.n - a.m) same (omega arith) (omega arith) }
