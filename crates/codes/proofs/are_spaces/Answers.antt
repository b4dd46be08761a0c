use mathlib.Core.Path.{◌≡◌, sym, ap, ◌∙◌}
use mathlib.Core.Bool.{Bool, true, ◌&&◌}
use mathlib.Core.List.{List}
use Prim.Native.Nat.{ℕ, ◌+◌, ◌≤◌, ◌<◌}
use native.Mathlib.Omega.{arith}
use native.Mathlib.Nat.{add_assoc}
use borrow.Author.Tests.{eqb-true}
use lib.Dec.{eqb}
use lib.ListN.{length, get_or}
use Rattle.chars.proofs.Cases.{and-true}
use Rattle.codes.proofs.Spaces.{space-behind}
use Rattle.codes.proofs.are_spaces.Invariants.{before}
use Rattle.codes.proofs.are_spaces.Goals as goal

-- a space more
on : (s : List ℕ) (at i : ℕ) (ok : Bool) → at + 16 ≤ length s → i < 16 → (ok ≡ true → before s (at + i) ≡ before s at) → (ok && eqb (get_or s (at + i) 0) 0x20) ≡ true → before s (at + (i + 1)) ≡ before s at
on s at i ok h l f e =
    let p = and-true ok (eqb (get_or s (at + i) 0) 0x20) e in
    ap (before s) (sym (add_assoc at i 1)) ∙ space-behind s (at + i) (omega arith) (eqb-true _ 0x20 p.1) ∙ f p.0

pub loop-i-preserved : goal.loop-i-preserved
loop-i-preserved c = on _ _ _ _ c.requires c.loop-i-test.true c.loop-i.invariant
