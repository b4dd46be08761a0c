use mathlib.Core.Path.{sym, ap, ◌∙◌}
use mathlib.Core.Bool.{Bool, ◌&&◌, and_assoc}
use Prim.Native.Nat.{◌+◌}
use lib.ListN.{get_or, drop, drop_of_length-le}
use Rattle.chunks.specs.Latin.{all_latin}
use Rattle.chunks.proofs.Latins.{latin-step}
use Rattle.chunks.proofs.all_latin.Goals as goal

pub loop-b-preserved : goal.loop-b-preserved
loop-b-preserved c =
    let t = c.args.t.now in
    let l = c.loop-b in
    let k = l.ok in
    let rest = all_latin (get_or t l.b-index 0) (drop (l.b-index + 1) t) in
    and_assoc k _ _
    ∙ ap (λ (r : Bool). k && (r && rest)) c.may_follow-ok.ensures
    ∙ ap (λ (r : Bool). k && r) (sym (latin-step l.p t l.b-index c.loop-b-test.true))
    ∙ l.invariant

pub returns : goal.returns
unfolding all_latin
returns c =
    let t = c.args.t.now in
    let l = c.loop-b in
    let e = drop_of_length-le t {i = l.b-index} c.loop-b-test.false in
    rw c.is_lead-open.ensures (rw e at l.invariant)
