use Rattle.pages.proofs.Sums.{total-over, total-on, total-end}
use mathlib.Core.Path.{sym, ◌∙◌}
use Rattle.pages.proofs.counts_fit.Goals as goal

pub returns-then-left-n : goal.returns-then-left-n
returns-then-left-n c =
    let l = c.loop-n in
    sym (total-over c.args.counts.now l.n-index l.left c.loop-n-test.true c.if-left-n.true) ∙ l.invariant

pub loop-n-preserved : goal.loop-n-preserved
loop-n-preserved c =
    let l = c.loop-n in
    sym (total-on c.args.counts.now l.n-index l.left c.loop-n-test.true c.if-left-n.false) ∙ l.invariant

pub returns : goal.returns
returns c = total-end _ _ _ c.loop-n-test.false ∙ c.loop-n.invariant
