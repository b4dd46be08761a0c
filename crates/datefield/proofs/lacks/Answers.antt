use mathlib.Core.Path.{◌≡◌, refl, sym, ap, ◌∙◌}
use mathlib.Core.Bool.{Bool, true, false, not, ◌&&◌}
use mathlib.Core.List.{List}
use Prim.Native.Nat.{ℕ, ◌+◌, ◌≤◌, ◌<◌}
use native.Mathlib.Nat.{add_assoc}
use native.Mathlib.Omega.{arith}
use borrow.Author.Tests.{eqb-false}
use lib.Dec.{eqb}
use lib.ListN.{length, get_or}
use Rattle.chars.proofs.Cases.{and-true}
use Rattle.datefield.proofs.Finding.{first_on}
use Rattle.datefield.proofs.lacks.Invariants.{from}
use Rattle.datefield.proofs.lacks.Goals as goal

is-not : (t : Bool) → not t ≡ true → t ≡ false
is-not true h = sym h
is-not false h = refl

-- a byte that is not b
on : (b : ℕ) (s : List ℕ) (at i : ℕ) (ok : Bool) → at + 16 ≤ length s → i < 16 → (ok ≡ true → from b s (at + i) ≡ from b s at) → (ok && not (eqb (get_or s (at + i) 0) b)) ≡ true → from b s (at + (i + 1)) ≡ from b s at
on b s at i ok h l f e =
    let p = and-true ok (not (eqb (get_or s (at + i) 0) b)) e in
    ap (from b s) (sym (add_assoc at i 1))
    ∙ sym (first_on b s (at + i) (omega arith) (eqb-false (get_or s (at + i) 0) b (is-not (eqb (get_or s (at + i) 0) b) p.1)))
    ∙ f p.0

pub loop-i-preserved : goal.loop-i-preserved
loop-i-preserved c = on _ _ _ _ _ c.requires c.loop-i-test.true c.loop-i.invariant
