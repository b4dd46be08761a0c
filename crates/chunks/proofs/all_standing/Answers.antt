use mathlib.Core.Path.{sym, ap, ◌∙◌}
use mathlib.Core.Bool.{Bool, ◌&&◌, and-true, and_assoc}
use Prim.Native.Nat.{◌+◌}
use lib.ListN.{drop}
use Rattle.chunks.specs.Standing.{all_standing}
use Rattle.chunks.proofs.Standing.{standing-step, standing-all}
use Rattle.chunks.proofs.all_standing.Goals as goal

pub loop-b-preserved : goal.loop-b-preserved
loop-b-preserved c =
    let a = c.args in
    let t = a.t.now in
    let l = c.loop-b in
    let k = l.ok in
    let rest = all_standing a.upper (drop (l.b-index + 1) t) in
    and_assoc k _ _
    ∙ ap (λ (r : Bool). k && (r && rest)) c.is_standing-ok.ensures
    ∙ ap (λ (r : Bool). k && r) (sym (standing-step a.upper t l.b-index c.loop-b-test.true))
    ∙ l.invariant

pub returns : goal.returns
returns c =
    let a = c.args in
    let l = c.loop-b in
    let k = l.ok in
    sym (and-true k) ∙ ap (λ (r : Bool). k && r) (sym (standing-all a.upper a.t.now l.b-index c.loop-b-test.false)) ∙ l.invariant
