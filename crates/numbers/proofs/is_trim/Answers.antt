use Prim.Native.Nat.{ℕ, ◌-◌, ◌<◌}
use native.Mathlib.Omega.{arith}
use lib.ListN.{length, get_or}
use Rattle.scanner.proofs.Laws.{not_white}
use Rattle.numbers.proofs.Trims.{ascii-trim}
use Rattle.numbers.proofs.is_trim.Goals as goal

pub returns : goal.returns
returns c = λ e.
    let s = c.args.s.now in
    let v = c.loop-b.invariant e in
    let low : (j : ℕ) → j < length s → get_or s j 0 < 0x80 = λ j h. v.1 j (omega arith) in
    ascii-trim s c.requires low (not_white _ v.0 (low (length s - 1) (omega (arith, c.requires))))
