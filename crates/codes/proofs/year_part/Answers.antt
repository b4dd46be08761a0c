use borrow.Author.Tests.{lt-ltb, le-ltb}
use Rattle.codes.specs.Parts.{year_part}
use Rattle.codes.specs.Words.{twos}
use Rattle.chars.specs.Pick.{pick}
use native.Mathlib.Omega.{arith}
use lib.Seq.{length-take-le}
use mathlib.Core.Path.{sym}
use borrow.Author.Rules.{rules}
use Rattle.codes.proofs.year_part.Goals as goal

pub returns-then-y-lt10000 : goal.returns-then-y-lt10000
unfolding year_part twos pick
returns-then-y-lt10000 c =
    simp (lt-ltb _ _ c.if-n-lt5.true, ← c.number-y.ensures, lt-ltb _ _ c.if-y-lt10000.true, c.wide_year.ensures)

pub returns-then-n-lt5 : goal.returns-then-n-lt5
unfolding year_part twos pick
returns-then-n-lt5 c =
    simp (lt-ltb _ _ c.if-n-lt5.true, ← c.number-y.ensures, le-ltb _ _ c.if-y-lt10000.false)

pub slice_bounds-number-length : goal.slice_bounds-number-length
slice_bounds-number-length c = sym (length-take-le _ _ (omega arith))

pub returns-then-ends_with_era : goal.returns-then-ends_with_era
unfolding year_part twos pick
returns-then-ends_with_era c =
    simp (le-ltb _ _ c.if-n-lt5.false, lt-ltb _ _ c.if-n-lt8.true, ← c.ends_with_era.ensures, c.if-ends_with_era.true, ← c.number.ensures, ← c.era_year.ensures)

pub returns-else-ends_with_era : goal.returns-else-ends_with_era
unfolding year_part twos pick
returns-else-ends_with_era c =
    simp (le-ltb _ _ c.if-n-lt5.false, lt-ltb _ _ c.if-n-lt8.true, ← c.ends_with_era.ensures, c.if-ends_with_era.false)

pub returns-else-n-lt8 : goal.returns-else-n-lt8
unfolding year_part twos pick
returns-else-n-lt8 c =
    simp (le-ltb _ _ c.if-n-lt5.false, le-ltb _ _ c.if-n-lt8.false)
