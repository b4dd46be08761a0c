use mathlib.Core.Path.{sym, ◌∙◌}
use borrow.Author.Tests.{eq-eqb, ne_eqb}
use native.Mathlib.Omega.{arith}
use Rattle.csv_rows.specs.Reader.{equal}
use Rattle.csv_rows.proofs.Laws.{run-go, run-stop, run_past}
use Rattle.csv_rows.proofs.byte_end.Goals as goal

pub returns-then-s-i : goal.returns-then-s-i
returns-then-s-i c =
    let a = c.args in
    sym (run-stop (equal a.c) a.s.now c.loop-i.i c.loop-i-test.true (eq-eqb _ _ c.if-s-i.true)) ∙ c.loop-i.invariant

pub loop-i-preserved : goal.loop-i-preserved
loop-i-preserved c =
    let a = c.args in
    sym (run-go (equal a.c) a.s.now c.loop-i.i c.loop-i-test.true (ne_eqb _ _ c.if-s-i.false)) ∙ c.loop-i.invariant

pub returns : goal.returns
returns c = grind (arith, run_past)
