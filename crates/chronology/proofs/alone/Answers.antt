use mathlib.Core.Path.{sym, ap, ◌∙◌}
use mathlib.Core.Bool.{not}
use Prim.Native.Nat.{ℕ}
use lib.ListN.{get_or}
use Rattle.chronology.proofs.Marks.{unmarked, unmarked-other}
use borrow.Author.Rules.{rules}
use Rattle.chronology.proofs.alone.Goals as goal

pub returns-then-marks-at-eq0 : goal.returns-then-marks-at-eq0
returns-then-marks-at-eq0 c =
    let m = c.args.marks.now in
    sym (ap not (unmarked m _ c.args.id c.requires.3 (ap (λ (k : ℕ). get_or m k 0) (sym c.mark_of-at.ensures.0) ∙ c.if-marks-at-eq0.true)))

pub returns-then-marks-other-eq0 : goal.returns-then-marks-other-eq0
returns-then-marks-other-eq0 c =
    let m = c.args.marks.now in
    sym (ap not (unmarked-other m _ c.args.id c.requires.3 (ap (λ (k : ℕ). get_or m k 0) (sym c.other_mark_of-other.ensures.0) ∙ c.if-marks-other-eq0.true)))

pub returns : goal.returns
returns c = ap not c.occurs.ensures
