use Rattle.writer.specs.Fields.{prefix}
use mathlib.Core.Bool.{Bool}
use lib.ListN.{length}
use native.Mathlib.Omega.{arith}
use mathlib.Core.Path.{ap, ◌≡◌}
use Rattle.writer.proofs.line_length.Goals as goal

pub returns-then-end : goal.returns-then-end
unfolding prefix
returns-then-end c =
    let e : length (prefix c.args.end) ≡ 3 = ap (λ (b : Bool). length (prefix b)) c.if-end.true in
    (omega (arith, e), omega arith)

pub returns : goal.returns
unfolding prefix
returns c =
    let e : length (prefix c.args.end) ≡ 0 = ap (λ (b : Bool). length (prefix b)) c.if-end.false in
    (omega (arith, e), omega arith)
