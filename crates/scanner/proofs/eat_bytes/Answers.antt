use mathlib.Core.Path.{sym, ◌∙◌}
use native.Mathlib.Omega.{arith}
use lib.ListN.{get_or}
use Rattle.scanner.proofs.Laws.{go-ascii}
use Rattle.scanner.proofs.eat_bytes.Goals as goal

pub loop-i-preserved : goal.loop-i-preserved
loop-i-preserved c = λ k q.
    let s = c.args.s.now in
    let i = c.loop-i.i in
    sym (go-ascii k s i c.loop-i-test.true (omega (arith, q.ascii)) (q.each (get_or s i 0) c.if-b-lo.false c.if-hi-b.false))
    ∙ c.loop-i.invariant k q
