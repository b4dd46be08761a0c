use Prim.Native.Nat.{◌+◌, ◌-◌, ◌≤◌, ◌<◌}
use lib.ListN.{length}
use Rattle.csv_rows.specs.Bytes.{utf8_end}
use Rattle.csv_rows.specs.Scans.{SameEnd}
use Rattle.csv_rows.proofs.Laws.{same_here, same_more}
use Rattle.csv_rows.proofs.Utf8.{step-inside, some, utf8-step, utf8-stop}
use borrow.Author.Rules.{rules}
use native.Mathlib.Omega.{arith}
use Rattle.csv_rows.proofs.utf8_end.Goals as goal

inside : (c : goal.Else-k-eq0) → (0 < c.char_step-k.result) × (c.skip_ascii-i.result + c.char_step-k.result ≤ length c.args.s.now)
inside c =
    let a = c.args in
    let w = c.skip_ascii-i.ensures.within in
    (some a.s.now c.skip_ascii-i.result _ c.if-k-eq0.false, step-inside a.s.now c.skip_ascii-i.result c.char_step-k.result w c.char_step-k.ensures)

pub loop-i-init : goal.loop-i-init
loop-i-init c = same_here utf8_end c.args.s.now 0 (omega arith)

pub returns-then-k-eq0 : goal.returns-then-k-eq0
returns-then-k-eq0 c =
    let a = c.args in
    let e = utf8-stop a.s.now c.skip_ascii-i.result c.char_step-k.result c.if-k-eq0.true c.char_step-k.ensures in
    let f = c.skip_ascii-i.ensures.same in
    let g = c.loop-i.invariant.same in
    omega arith

pub overflow_add-i : goal.overflow_add-i
overflow_add-i c = let h = inside c in omega arith

pub loop-i-smaller : goal.loop-i-smaller
loop-i-smaller c = let h = inside c in let w = c.skip_ascii-i.ensures.upward in omega arith

pub loop-i-preserved : goal.loop-i-preserved
loop-i-preserved c =
    let a = c.args in
    let h = inside c in
    let e = utf8-step a.s.now c.skip_ascii-i.result c.char_step-k.result h.0 c.skip_ascii-i.ensures.within c.char_step-k.ensures in
    same_more utf8_end a.s.now 0 c.skip_ascii-i.result _ (same_more utf8_end a.s.now 0 c.loop-i.i c.skip_ascii-i.result c.loop-i.invariant c.skip_ascii-i.ensures) (record { same = e; upward = omega arith; within = h.1 })
