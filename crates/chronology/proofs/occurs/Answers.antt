use mathlib.Core.Path.{sym, ◌∙◌}
use native.Mathlib.Omega.{arith}
use Rattle.chronology.proofs.Marks.{seen, seen_all}
use Rattle.chronology.proofs.occurs.Goals as goal

pub loop-i-preserved : goal.loop-i-preserved
loop-i-preserved c =
    let s = c.args in
    let l = c.loop-i in
    seen s.ids.now s.ids.now s.count l.i s.id l.found c.loop-i-test.true (omega (arith, c.requires.1, c.requires.2)) ∙ l.invariant

pub returns : goal.returns
returns c =
    let s = c.args in
    let l = c.loop-i in
    sym (seen_all s.ids.now s.ids.now s.count l.i s.id l.found c.loop-i-test.false (omega (arith, c.requires.1, c.requires.2))) ∙ l.invariant
