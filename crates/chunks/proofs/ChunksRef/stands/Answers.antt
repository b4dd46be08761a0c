use mathlib.Core.Path.{sym, ◌∙◌}
use Rattle.chunks.specs.Standing.{list_stands}
use Rattle.chunks.proofs.Tables.{of-fits}
use borrow.Author.Rules.{rules}
use Rattle.chunks.proofs.ChunksRef.stands.Goals as goal

pub no_math-requires : goal.no_math-requires
no_math-requires c = (of-fits _ _ (sym c.fits.ensures ∙ c.if-fits.true)).fours

pub returns-then-no_math : goal.returns-then-no_math
unfolding list_stands
returns-then-no_math c =
    simp (← c.fits.ensures, c.if-fits.true, ← c.is_short.ensures, c.if-is_short.true, ← c.no_math.ensures, c.if-no_math.true, ← c.all_standing.ensures)

pub returns-else-no_math : goal.returns-else-no_math
unfolding list_stands
returns-else-no_math c =
    simp (← c.fits.ensures, c.if-fits.true, ← c.is_short.ensures, c.if-is_short.true, ← c.no_math.ensures, c.if-no_math.false)

pub returns-else-is_short : goal.returns-else-is_short
unfolding list_stands
returns-else-is_short c =
    simp (← c.fits.ensures, c.if-fits.true, ← c.is_short.ensures, c.if-is_short.false)

pub returns-else-fits : goal.returns-else-fits
unfolding list_stands
returns-else-fits c = simp (← c.fits.ensures, c.if-fits.false)
