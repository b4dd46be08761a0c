use Rattle.numbers.proofs.Whole.{digits-over, digit-on, digit-none, digit-above}
use Rattle.chars.specs.Pick.{pick}
use Rattle.numbers.specs.Parse.{digits_from}
use borrow.Author.Tests.{le-leb, lt-leb}
use lib.ListN.{drop}
use Rattle.std.proofs.lemmas.List.{take_rest}
use native.Mathlib.Omega.{arith}
use mathlib.Core.Path.{sym, ◌∙◌}
use Rattle.numbers.proofs.digits_from.Goals as goal

pub returns-then-s-at : goal.returns-then-s-at
unfolding digits_from pick
returns-then-s-at c = simp (le-leb _ _ c.if-s-at.true)

pub loop-b-init : goal.loop-b-init
unfolding digits_from pick
loop-b-init c = (simp (lt-leb _ _ c.if-s-at.false), omega arith)

pub returns-then-d-gt9 : goal.returns-then-d-gt9
returns-then-d-gt9 c =
    let a = c.args in
    let l = c.loop-b in
    let r = take_rest a.s.now a.at in
    sym (digit-none a.top l.value _ l.b-index (drop a.at a.s.now) (rw r at c.loop-b-test.true) (rw r at c.digit-d.ensures) c.if-d-gt9.true) ∙ l.invariant.0

pub returns-then-top-more : goal.returns-then-top-more
returns-then-top-more c =
    let a = c.args in
    let l = c.loop-b in
    let r = take_rest a.s.now a.at in
    sym (digit-above a.top l.value _ l.b-index (drop a.at a.s.now) (rw r at c.loop-b-test.true) (rw r at c.digit-d.ensures) c.if-d-gt9.false c.if-top-more.true) ∙ l.invariant.0

pub loop-b-preserved : goal.loop-b-preserved
loop-b-preserved c =
    let a = c.args in
    let l = c.loop-b in
    let r = take_rest a.s.now a.at in (
      sym (digit-on a.top l.value _ l.b-index (drop a.at a.s.now) (rw r at c.loop-b-test.true) (rw r at c.digit-d.ensures) c.if-d-gt9.false c.if-top-more.false) ∙ l.invariant.0,
      omega arith,
    )

pub returns : goal.returns
returns c =
    let l = c.loop-b in
    let r = take_rest c.args.s.now c.args.at in
    sym (digits-over _ l.value l.b-index _ (rw r at c.loop-b-test.false)) ∙ l.invariant.0
