use mathlib.Core.Path.{◌≡◌, ◌∙◌}
use Prim.Native.Nat.{◌+◌, ◌-◌}
use native.Mathlib.Omega.{arith}
use lib.ListN.{length, drop}
use Rattle.hexes.specs.Hex.{all_digits}
use Rattle.hexes.proofs.Laws.{last_block, ended}
use Rattle.hexes.proofs.all_digits.Goals.{else-loop-i-test, then-loop-i-test+else-not-are_digits+else-i-end-i-gt32}
use Rattle.hexes.proofs.all_digits.Goals as goal

pub returns : goal.returns
returns c =
    let l = c.args.line.now in
    let i = c.loop-i.i in
    let n = length l - 32 in
    let e : all_digits (drop n l) ≡ all_digits l =
    elim c.loop-i-test.branch [
      | else-loop-i-test w ↦ ended l n i (omega arith) c.loop-i.invariant
      | then-loop-i-test+else-not-are_digits+else-i-end-i-gt32 w ↦
          ended l n (i + 32) (omega arith) ((rw w.if-not-are_digits.false at w.are_digits.ensures) ∙ c.loop-i.invariant)
    ]
    in
    last_block l n (omega arith) c.are_digits-2.ensures ∙ e
