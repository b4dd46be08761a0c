use mathlib.Core.Path.{sym, ◌∙◌}
use native.Mathlib.Omega.{arith}
use Rattle.frames.proofs.Usual.{usual-long, said-line}
use borrow.Author.Rules.{rules}
use Rattle.frames.proofs.answer_frame.Goals as goal

pub slice_bounds-text-count : goal.slice_bounds-text-count
slice_bounds-text-count c = usual-long c.args.f.now (sym c.is_usual.ensures ∙ c.if-is_usual.true)

pub slice_bounds-text-start : goal.slice_bounds-text-start
slice_bounds-text-start c =
    let h = usual-long c.args.f.now (sym c.is_usual.ensures ∙ c.if-is_usual.true) in
    omega (arith, h)

pub returns-then-w-eq0 : goal.returns-then-w-eq0
returns-then-w-eq0 c =
    let e = said-line c.args.f.now (sym c.is_usual.ensures ∙ c.if-is_usual.true) c.text-w.ensures c.if-w.true c.if-w-eq0.true in
    rw e at c.put_words.ensures
