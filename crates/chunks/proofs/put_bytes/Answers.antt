use mathlib.Core.Path.{refl, sym, ap, ◌∙◌}
use mathlib.Core.List.{List, [], ◌∷◌}
use Prim.Native.Nat.{ℕ, suc, ◌+◌}
use native.Mathlib.Nat.{add-suc}
use native.Mathlib.Numerals.{add-one}
use native.Mathlib.Omega.{arith}
use lib.ListN.{get_or, drop, drop_of_length-le}
use lib.Seq.{sets, drop-cons}
use Rattle.chunks.proofs.put_bytes.Goals as goal

pub loop-i-preserved : goal.loop-i-preserved
loop-i-preserved c =
    let a = c.args in
    let l = c.loop-i in
    sym (rw (add-one l.i, add-suc) (ap (sets l.buf (a.n + l.i)) (drop-cons a.t.now l.i 0 c.loop-i-test.true))) ∙ l.invariant

pub returns : goal.returns
returns c =
    let a = c.args in
    let l = c.loop-i in
    (refl, sym (ap (sets l.buf (a.n + l.i)) (drop_of_length-le a.t.now c.loop-i-test.false)) ∙ l.invariant)
