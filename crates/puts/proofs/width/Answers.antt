use Rattle.puts.proofs.Counts.{one_more, padded, few, unpadded, no-digits}
use Rattle.puts.specs.Numbers.{digit_count}
use Prim.Native.Nat.{◌+◌, ◌≤◌, ℕ}
use native.Mathlib.Omega.{arith}
use mathlib.Core.Path.{◌≡◌, sym, ap, ◌∙◌}
use native.Mathlib.Nat.{zero-add}
use Rattle.puts.proofs.width.Goals as goal

-- behind the loop nothing is left
ended : (w rest n : ℕ) → w + digit_count rest ≡ digit_count n → rest ≤ 0 → w ≡ digit_count n
ended w rest n e h = let z : rest ≡ 0 = omega arith in omega (arith, e, ap digit_count z, no-digits)

pub loop-rest-init : goal.loop-rest-init
loop-rest-init c = zero-add (digit_count c.args.n)

pub overflow_add-w : goal.overflow_add-w
overflow_add-w c = omega (arith, c.loop-rest.invariant, few 10 c.args.n (omega arith))

pub loop-rest-preserved : goal.loop-rest-preserved
loop-rest-preserved c = omega (arith, c.loop-rest.invariant, one_more c.loop-rest.rest c.loop-rest-test.true)

pub returns-then-w-least : goal.returns-then-w-least
returns-then-w-least c =
    let a = c.args in
    let e = ended _ _ _ c.loop-rest.invariant c.loop-rest-test.false in
    record { value = sym (padded a.least a.n (omega (arith, e, c.if-w-least.true))); upper_bound = λ h. omega arith }

pub returns : goal.returns
returns c =
    let a = c.args in
    let e = ended _ _ _ c.loop-rest.invariant c.loop-rest-test.false in
    record { value = e ∙ sym (unpadded a.least a.n (omega (arith, e, c.if-w-least.false))); upper_bound = λ h. omega (arith, e, few 10 a.n (omega arith)) }
