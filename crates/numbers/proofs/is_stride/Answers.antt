use mathlib.Core.Path.{sym}
use Prim.Native.Nat.{ℕ, ◌+◌, ◌≤◌, ◌<◌}
use native.Mathlib.Omega.{arith}
use lib.ListN.{get_or}
use Rattle.scanner.proofs.Laws.{not_white}
use Rattle.numbers.proofs.Trims.{over-ascii}
use Rattle.numbers.proofs.is_stride.Goals as goal

pub returns : goal.returns
returns c = λ e.
    let v = c.loop-i.invariant e in
    let low : (j : ℕ) → j ≤ 15 → get_or c.args.s.now (c.args.at + j) 0 < 0x80 = λ j h. v.1 j (omega arith) in
    sym (over-ascii 15 c.args.s.now c.args.at (omega (arith, c.requires)) low (not_white _ v.0 (low 15 (omega arith)))).1
