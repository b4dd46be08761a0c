use mathlib.Core.Path.{◌≡◌, sym, ap, ◌∙◌}
use mathlib.Core.Bool.{Bool, true, ◌&&◌}
use mathlib.Core.List.{List}
use Prim.Native.Nat.{ℕ, ◌+◌, ◌≤◌, ◌<◌}
use native.Mathlib.Omega.{arith}
use borrow.Author.Tests.{eqb-true}
use lib.Dec.{eqb}
use lib.ListN.{length, get_or}
use Rattle.chars.proofs.Cases.{and-true}
use Rattle.scanner.specs.declared.Class.TheVariants.{Whitespace}
use Rattle.scanner.specs.Class.{in_class}
use Rattle.scanner.specs.Scan.{eat_while}
use Rattle.scanner.proofs.Laws.{go-ascii}
use Rattle.scanner.proofs.Blanks.{space-white}
use Rattle.scanner.proofs.are_spaces.Goals as goal

-- a space is eaten
on : (s : List ℕ) (at i : ℕ) (ok : Bool) → at + 64 ≤ length s → i < 64 → (ok ≡ true → eat_while Whitespace s (at + i) ≡ eat_while Whitespace s at) → (ok && eqb (get_or s (at + i) 0) 0x20) ≡ true → eat_while Whitespace s (at + (i + 1)) ≡ eat_while Whitespace s at
on s at i ok h l f e =
    let p = and-true ok (eqb (get_or s (at + i) 0) 0x20) e in
    let b : get_or s (at + i) 0 ≡ 0x20 = eqb-true _ 0x20 p.1 in
    let n : at + (i + 1) ≡ at + i + 1 = omega arith in
    ap (eat_while Whitespace s) n
    ∙ sym (go-ascii Whitespace s (at + i) (omega arith) (omega (arith, b)) (ap (in_class Whitespace) b ∙ space-white))
    ∙ f p.0

pub loop-i-preserved : goal.loop-i-preserved
loop-i-preserved c = on _ _ _ _ c.requires c.loop-i-test.true c.loop-i.invariant
