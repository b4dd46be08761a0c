use mathlib.Core.Path.{sym, ap, ◌∙◌}
use mathlib.Core.Bool.{Bool, not, ◌&&◌, and-true, and_assoc}
use Prim.Native.Nat.{◌+◌}
use lib.ListN.{get_or, drop}
use Rattle.chunks.specs.Latin.{none_odd}
use Rattle.chunks.proofs.Raises.{odd_step, odd-end}
use Rattle.chunks.proofs.none_odd.Goals as goal

pub loop-b-preserved : goal.loop-b-preserved
loop-b-preserved c =
    let t = c.args.t.now in
    let l = c.loop-b in
    let k = l.ok in
    let rest = none_odd (get_or t l.b-index 0) (drop (l.b-index + 1) t) in
    and_assoc k _ _
    ∙ ap (λ (r : Bool). k && (not r && rest)) c.is_odd-odd.ensures
    ∙ ap (λ (r : Bool). k && r) (sym (odd_step l.p t l.b-index c.loop-b-test.true))
    ∙ l.invariant

pub returns : goal.returns
returns c =
    let t = c.args.t.now in
    let l = c.loop-b in
    let k = l.ok in
    sym (and-true k) ∙ ap (λ (r : Bool). k && r) (sym (odd-end l.p t l.b-index c.loop-b-test.false)) ∙ l.invariant
