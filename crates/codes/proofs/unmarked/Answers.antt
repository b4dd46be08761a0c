use Rattle.codes.specs.Points.{point_of}
use Rattle.codes.specs.Texts.{value_of}
use Rattle.chars.specs.Pick.{pick}
use native.Mathlib.Omega.{arith}
use mathlib.Core.Path.{sym, ◌∙◌, ap}
use Rattle.codes.proofs.Laws.{plain-point, one_side, slash-in}
use Rattle.dates.specs.declared.DateValue.TheVariants.{At}
use Rattle.codes.specs.Words.{day_word, time_word, words}
use Rattle.scanner.proofs.Parts.{rest}
use lib.Seq.{length-take-le}
use Prim.Native.Nat.{◌+◌}
use borrow.Author.Tests.{lt-ltb, le-ltb}
use borrow.Author.Rules.{rules}
use Rattle.codes.proofs.unmarked.Goals as goal

pub slice_bounds-halves-end : goal.slice_bounds-halves-end
slice_bounds-halves-end c =
    let h = slash-in c.args.s.now c.slash_of-k.result (sym c.slash_at.ensures ∙ c.if-slash_at.true) in
    sym (length-take-le _ _ (omega (arith, h)))

pub overflow_add-k : goal.overflow_add-k
overflow_add-k c =
    let h = slash-in c.args.s.now c.slash_of-k.result (sym c.slash_at.ensures ∙ c.if-slash_at.true) in
    record { fits = omega (arith, h) }

pub slice_bounds-halves-count : goal.slice_bounds-halves-count
slice_bounds-halves-count c =
    let h = slash-in c.args.s.now c.slash_of-k.result (sym c.slash_at.ensures ∙ c.if-slash_at.true) in
    omega (arith, h)

pub slice_bounds-halves-start : goal.slice_bounds-halves-start
slice_bounds-halves-start c =
    let h = slash-in c.args.s.now c.slash_of-k.result (sym c.slash_at.ensures ∙ c.if-slash_at.true) in
    omega (arith, h)

pub returns-then-slash_at : goal.returns-then-slash_at
unfolding value_of pick
returns-then-slash_at c =
    let s = c.args.s.now in
    let e = rw (rest s (c.slash_of-k.result + 1)) at c.halves.ensures in
    simp (← c.slash_of-k.ensures, ← c.slash_at.ensures, c.if-slash_at.true, ← e)

pub returns-then-s-lt19 : goal.returns-then-s-lt19
unfolding value_of pick
returns-then-s-lt19 c =
    let a = c.args in
    let l = one_side (point_of a.s.now) (plain-point a.s.now) At 0 a.marks (λ d. ap (words 0 0 (day_word d) (time_word d) 0 0) (omega arith)) c.point.ensures c.one.ensures.value c.one.ensures.value_2 in
    simp (← c.slash_of-k.ensures, ← c.slash_at.ensures, c.if-slash_at.false, lt-ltb _ _ c.if-s-lt19.true, ← l)

pub returns : goal.returns
unfolding value_of pick
returns c =
    simp (← c.slash_of-k.ensures, ← c.slash_at.ensures, c.if-slash_at.false, le-ltb _ _ c.if-s-lt19.false, ← c.timed.ensures)
