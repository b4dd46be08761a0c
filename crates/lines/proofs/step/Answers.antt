use mathlib.Core.Path.{sym, ap, ◌∙◌, subst}
use Prim.Native.Nat.{ℕ, ◌-◌}
use Rattle.lines.specs.declared.Taken.{Taken}
use Rattle.lines.specs.Steps.{taken_at, Stepped}
use Rattle.frames.specs.Frame.{line_answer}
use native.Mathlib.Omega.{arith}
use lib.ListN.{length}
use borrow.Author.Rules.{rules}
use Rattle.frames.proofs.Lengths.{frames-some}
use Rattle.lines.proofs.Ways.{frames-long}
use Rattle.lines.proofs.Moves.{Sofar, begun, end_in, no_feed, next, stopped, ended}
use Rattle.lines.proofs.step.Goals as goal

pub loop-long-init : goal.loop-long-init
loop-long-init c = let a = c.args in begun line_answer 16384 a.long a.block.now a.out.now

pub returns-then-e-block : goal.returns-then-e-block
returns-then-e-block c =
    let a = c.args in
    let g = c.line_end-e.ensures in
    let h = c.if-e-block.true in
    subst (λ (r : Taken). Stepped line_answer 16384 a.long a.block.now a.out.now r c.loop-long.out)
    (sym (c.taken_at.ensures ∙ ap (λ (n : ℕ). taken_at 16384 n c.loop-long.at c.loop-long.l c.loop-long.p) h))
    (ended c.loop-long.invariant (no_feed c.loop-long.invariant g h))

pub slice_bounds-put_line-end : goal.slice_bounds-put_line-end
slice_bounds-put_line-end c = let h = end_in c.loop-long.invariant c.line_end-e.ensures in search rules

pub returns-then-q-p : goal.returns-then-q-p
returns-then-q-p c =
    stopped c.loop-long.invariant c.line_end-e.ensures c.if-e-block.false frames-long c.put_line-q.ensures frames-some c.if-q-p.true

pub overflow_add-at : goal.overflow_add-at
overflow_add-at c =
    omega (arith, end_in c.loop-long.invariant c.line_end-e.ensures)

pub loop-long-smaller : goal.loop-long-smaller
loop-long-smaller c =
    omega (arith, end_in c.loop-long.invariant c.line_end-e.ensures, c.line_end-e.ensures, c.if-e-block.false)

pub loop-long-preserved : goal.loop-long-preserved
loop-long-preserved c =
    next c.loop-long.invariant c.line_end-e.ensures c.if-e-block.false frames-long c.put_line-q.ensures c.if-q-p.false
