use mathlib.Core.Path.{◌≡◌, sym, ◌∙◌}
use native.Mathlib.Omega.{arith}
use lib.ListN.{length}
use Rattle.headers.proofs.Letters.{spaces-end, spaces-on, spaces-stop}
use Rattle.headers.proofs.behind_spaces.Goals as goal

pub returns-then-not-is_space : goal.returns-then-not-is_space
returns-then-not-is_space c =
    (spaces-stop c.args.s.now c.loop-i.i c.loop-i-test.true (sym c.is_space.ensures ∙ c.if-not-is_space.true) ∙ c.loop-i.invariant, omega arith)

pub loop-i-preserved : goal.loop-i-preserved
loop-i-preserved c =
    spaces-on c.args.s.now c.loop-i.i c.loop-i-test.true (sym c.is_space.ensures ∙ c.if-not-is_space.false) ∙ c.loop-i.invariant

pub returns : goal.returns
returns c =
    let e : length c.args.s.now ≡ c.loop-i.i = omega arith in
    (e ∙ spaces-end c.args.s.now c.loop-i.i c.loop-i-test.false ∙ c.loop-i.invariant, omega arith)
