use mathlib.Core.Path.{sym, ◌∙◌}
use native.Mathlib.Omega.{arith}
use Rattle.csv_rows.specs.Reader.{is_special}
use Rattle.csv_rows.proofs.Laws.{run-go, run-stop, run_past}
use Rattle.csv_rows.proofs.plain_end.Goals as goal

pub returns-then-is_special : goal.returns-then-is_special
returns-then-is_special c =
    let a = c.args in
    sym (run-stop (is_special a.sep) a.s.now c.loop-i.i c.loop-i-test.true (sym c.is_special.ensures ∙ c.if-is_special.true)) ∙ c.loop-i.invariant

pub returns-then-i-at-ge7 : goal.returns-then-i-at-ge7
returns-then-i-at-ge7 c =
    let a = c.args in
    c.plain_from.ensures
    ∙ c.skip_plain.ensures.same
    ∙ sym (run-go (is_special a.sep) a.s.now c.loop-i.i c.loop-i-test.true (sym c.is_special.ensures ∙ c.if-is_special.false))
    ∙ c.loop-i.invariant

pub loop-i-preserved : goal.loop-i-preserved
loop-i-preserved c =
    let a = c.args in
    sym (run-go (is_special a.sep) a.s.now c.loop-i.i c.loop-i-test.true (sym c.is_special.ensures ∙ c.if-is_special.false)) ∙ c.loop-i.invariant

pub returns : goal.returns
returns c = let a = c.args in grind (arith, run_past (is_special a.sep) a.s.now a.at, run_past (is_special a.sep) a.s.now c.loop-i.i)
