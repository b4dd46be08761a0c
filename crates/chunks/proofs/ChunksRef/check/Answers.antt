use mathlib.Core.Path.{sym, ◌∙◌}
use Rattle.chars.specs.Pick.{pick}
use Rattle.chunks.specs.Check.{checked}
use Rattle.chunks.proofs.Whole.{ascii-checked}
use borrow.Author.Rules.{rules}
use Rattle.chunks.proofs.ChunksRef.check.Goals as goal

pub returns-then-all_ascii : goal.returns-then-all_ascii
returns-then-all_ascii c =
    sym (ascii-checked _ _ (sym c.fits.ensures ∙ c.if-fits.true) (sym c.is_short.ensures ∙ c.if-is_short.true) (sym c.all_ascii.ensures ∙ c.if-all_ascii.true))

pub is_latin-requires : goal.is_latin-requires
is_latin-requires c = sym c.fits.ensures ∙ c.if-fits.true

pub returns-then-is_latin : goal.returns-then-is_latin
unfolding checked pick
returns-then-is_latin c =
    simp (← c.fits.ensures, c.if-fits.true, ← c.is_short.ensures, c.if-is_short.true, c.is_latin.ensures c.if-is_latin.true)

pub check_characters-requires : goal.check_characters-requires
check_characters-requires c = sym c.fits.ensures ∙ c.if-fits.true

pub returns-then-is_short : goal.returns-then-is_short
unfolding checked pick
returns-then-is_short c =
    simp (← c.fits.ensures, c.if-fits.true, ← c.is_short.ensures, c.if-is_short.true, ← c.check_characters.ensures)

pub returns-then-fits : goal.returns-then-fits
unfolding checked pick
returns-then-fits c =
    simp (← c.fits.ensures, c.if-fits.true, ← c.is_short.ensures, c.if-is_short.false, ← c.nowhere.ensures)

pub returns : goal.returns
unfolding checked pick
returns c =
    simp (← c.fits.ensures, c.if-fits.false, ← c.nowhere-2.ensures)
