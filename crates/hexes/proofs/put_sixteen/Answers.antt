use mathlib.Core.Path.{◌≡◌, ap, ◌∙◌}
use Prim.Native.Nat.{◌+◌, ◌-◌}
use native.Mathlib.Omega.{arith}
use lib.ListN.{length}
use lib.Seq.{sets}
use borrow.Rule.Slice.PartMut.{put_mid}
use Rattle.hexes.proofs.Laws.{rest, put-part, puts}
use Rattle.hexes.proofs.put_sixteen.Goals as goal

pub returns : goal.returns
returns c =
    let a = c.args in
    let bytes = c.sixteen-bytes.result in
    let n : length bytes ≡ 16 = omega arith in
    let e : put_mid a.at (a.at + 16 - a.at) a.frame.now c.copy_from_slice.new.self ≡ sets a.frame.now a.at bytes =
    put-part a.frame.now c.copy_from_slice.new.self bytes a.at (a.at + 16 - a.at) c.copy_from_slice.ensures.after (omega arith) (omega arith)
    in
    let p = rw n at (puts a.line.now bytes a.frame.now a.at (omega arith) (λ i l. c.sixteen-bytes.ensures i (omega arith))) in
    ap (λ f. rest a.line.now f (a.at + 16)) e ∙ p
