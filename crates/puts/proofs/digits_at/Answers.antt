use Rattle.puts.proofs.Counts.{length_digits}
use Rattle.puts.proofs.Puts.{next-digit}
use Rattle.puts.specs.Numbers.{digits}
use lib.Seq.{sets}
use Prim.Native.Nat.{◌+◌, ◌-◌, ℕ, suc}
use native.Mathlib.Omega.{arith}
use mathlib.Core.Path.{◌≡◌, sym, ap, ◌∙◌}
use Rattle.puts.proofs.digits_at.Goals as goal

pub loop-k-preserved : goal.loop-k-preserved
loop-k-preserved c =
    let a = c.args in
    let l = c.loop-k in
    let e : suc (l.k - 1) ≡ l.k = omega arith in
    next-digit l.out a.at (l.k - 1) l.rest ∙ ap (λ (m : ℕ). sets l.out a.at (digits m l.rest)) e ∙ l.invariant

pub returns : goal.returns
returns c =
    let a = c.args in
    let l = c.loop-k in
    let z : l.k ≡ 0 = omega arith in
    record { behind = ap (λ (m : ℕ). a.at + m) (sym (length_digits a.w a.n)); bytes = ap (λ (m : ℕ). sets l.out a.at (digits m l.rest)) (sym z) ∙ l.invariant }
