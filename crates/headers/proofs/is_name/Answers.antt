use mathlib.Core.Path.{sym, ap, ◌∙◌}
use Prim.Native.Nat.{ℕ}
use native.Mathlib.Nat.{zero-add}
use native.Mathlib.Omega.{arith}
use lib.ListN.{drop}
use Rattle.headers.specs.Names.{spaces, starts_so, is_name}
use Rattle.headers.proofs.Letters.{so-end, so-short, so-not, so-on, so-all}
use Rattle.headers.proofs.is_name.Goals as goal

pub loop-c-init : goal.loop-c-init
unfolding is_name
loop-c-init c =
    let a = c.args in
    (ap (λ (i : ℕ). starts_so a.name.now (drop i a.s.now)) (c.behind_spaces-i.ensures.0 ∙ zero-add (spaces a.s.now)), c.behind_spaces-i.ensures.1)

pub returns-then-i-s : goal.returns-then-i-s
returns-then-i-s c =
    let a = c.args in
    sym (so-short a.name.now a.s.now c.loop-c.c-index c.loop-c.i c.loop-c-test.true c.if-i-s.true) ∙ c.loop-c.invariant.0

pub returns-then-c-b : goal.returns-then-c-b
returns-then-c-b c =
    let a = c.args in
    sym (so-not a.name.now a.s.now c.loop-c.c-index c.loop-c.i c.loop-c-test.true _ (omega arith) c.lower-b.ensures c.if-c-b.true) ∙ c.loop-c.invariant.0

pub loop-c-preserved : goal.loop-c-preserved
loop-c-preserved c =
    let a = c.args in
    (sym (so-on a.name.now a.s.now c.loop-c.c-index c.loop-c.i c.loop-c-test.true _ (omega arith) c.lower-b.ensures c.if-c-b.false) ∙ c.loop-c.invariant.0, omega arith)

pub returns : goal.returns
returns c =
    let a = c.args in
    so-all a.s.now c.loop-c.i c.loop-c.invariant.1 c.behind_spaces.ensures.0
    ∙ sym (so-end a.name.now a.s.now c.loop-c.c-index c.loop-c.i c.loop-c-test.false)
    ∙ c.loop-c.invariant.0
