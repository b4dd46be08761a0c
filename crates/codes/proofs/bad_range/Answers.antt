use borrow.Author.Tests.{eq-eqb, ne_eqb}
use Rattle.codes.specs.Ported.{bad_range}
use Rattle.chars.specs.Pick.{pick}
use native.Mathlib.Omega.{arith}
use mathlib.Core.Path.{sym, ap, ◌∙◌}
use Prim.Native.Nat.{◌+◌}
use lib.ListN.{take}
use lib.Seq.{length-take-le}
use Rattle.scanner.proofs.Parts.{rest}
use Rattle.codes.specs.Words.{words_or}
use Rattle.codes.proofs.Half.{half-stops, half-goes}
use borrow.Author.Rules.{rules}
use Rattle.codes.proofs.bad_range.Goals as goal

pub returns-then-s-k : goal.returns-then-s-k
unfolding bad_range pick
returns-then-s-k c =
    simp (← c.slash_at.ensures, c.if-slash_at.true, ne_eqb _ _ c.if-s-k.true, c.no_words.ensures)

pub slice_bounds-point-end : goal.slice_bounds-point-end
slice_bounds-point-end c = sym (length-take-le _ _ (omega arith))

pub returns-then-point : goal.returns-then-point
unfolding bad_range pick
returns-then-point c =
    rw (← c.slash_at.ensures, c.if-slash_at.true, eq-eqb _ _ c.if-s-k.false)
    (c.no_words-then-point.ensures ∙ ap words_or (sym (half-stops _ (take c.args.k c.args.s.now) c.point.ensures c.if-point.true)))

pub returns-then-slash_at : goal.returns-then-slash_at
unfolding bad_range pick
returns-then-slash_at c =
    let e = rw (rest c.args.s.now (c.args.k + 1)) at c.bad_day.ensures in
    rw (← c.slash_at.ensures, c.if-slash_at.true, eq-eqb _ _ c.if-s-k.false)
    (e ∙ ap words_or (sym (half-goes _ (take c.args.k c.args.s.now) c.point.ensures c.if-point.false)))

pub returns : goal.returns
unfolding bad_range pick
returns c =
    simp (← c.slash_at.ensures, c.if-slash_at.false, c.no_words-2.ensures)
