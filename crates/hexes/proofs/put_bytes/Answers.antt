use mathlib.Core.Path.{◌≡◌, ◌∙◌}
use Prim.Native.Nat.{◌+◌, ◌-◌, ◌*◌, ◌/◌}
use native.Mathlib.Omega.{arith}
use lib.ListN.{length}
use Rattle.hexes.proofs.Laws.{rest, no_feed, put-again, last-put}
use Rattle.hexes.proofs.put_bytes.Goals.{else-loop-i-test, then-loop-i-test+else-line-i-eq10+else-i-end-i-gt16}
use Rattle.hexes.proofs.put_bytes.Goals as goal

pub returns-then-line-i-eq10 : goal.returns-then-line-i-eq10
returns-then-line-i-eq10 c = absurd (no_feed c.args.line.now (2 * c.loop-i.i) c.requires.0 (omega arith) c.if-line-i-eq10.true)

pub returns : goal.returns
returns c =
    let l = c.args.line.now in
    let i = c.loop-i.i in
    let j = length l / 2 - 16 in
    let e : rest l c.loop-i-test.frame j ≡ rest l c.args.frame.now 0 =
    elim c.loop-i-test.branch [
      | else-loop-i-test w ↦ rw w.frame-is (put-again l c.args.frame.now c.loop-i.frame i j (omega arith) (omega arith) (omega (arith, c.requires.1)) c.loop-i.invariant.0)
      | then-loop-i-test+else-line-i-eq10+else-i-end-i-gt16 w ↦
          rw w.frame-is (put-again l c.args.frame.now w.put_sixteen.new.frame (i + 16) j (omega arith) (omega arith) (omega (arith, c.requires.1)) (w.put_sixteen.ensures ∙ c.loop-i.invariant.0))
    ]
    in
    last-put l c.put_sixteen-2.new.frame (j + 16) (omega arith) ∙ c.put_sixteen-2.ensures ∙ e
