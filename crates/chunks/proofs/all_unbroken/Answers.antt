use mathlib.Core.Path.{sym, ap, ◌∙◌}
use mathlib.Core.Bool.{Bool, ◌&&◌, and-true, and_assoc}
use Rattle.chunks.proofs.Whole.{unbroken-step, unbroken-all}
use Rattle.chunks.proofs.all_unbroken.Goals as goal

pub loop-b-preserved : goal.loop-b-preserved
loop-b-preserved c =
    let t = c.args.t.now in
    let l = c.loop-b in
    let k = l.ok in
    and_assoc k _ _ ∙ ap (λ (r : Bool). k && r) (sym (unbroken-step t l.b-index c.loop-b-test.true)) ∙ l.invariant

pub returns : goal.returns
returns c =
    let t = c.args.t.now in
    let l = c.loop-b in
    let k = l.ok in
    sym (and-true k) ∙ ap (λ (r : Bool). k && r) (sym (unbroken-all t l.b-index c.loop-b-test.false)) ∙ l.invariant
