use borrow.Author.Tests.{le-leb, lt-leb}
use Rattle.codes.specs.Ported.{no_year}
use Rattle.refusals.specs.Refusal.{refusal}
use Rattle.chars.specs.Pick.{pick}
use borrow.Author.Rules.{rules}
use Rattle.codes.proofs.words_refused.Goals as goal

pub returns-then-s-gt4096 : goal.returns-then-s-gt4096
unfolding no_year refusal pick
returns-then-s-gt4096 c =
    simp (lt-leb _ _ c.if-s-gt4096.true, c.no_words.ensures)

pub returns-then-all_words : goal.returns-then-all_words
unfolding no_year refusal pick
returns-then-all_words c =
    simp (le-leb _ _ c.if-s-gt4096.false, ← c.all_words.ensures, c.if-all_words.true, c.refused.ensures)

pub returns : goal.returns
unfolding no_year refusal pick
returns c =
    simp (le-leb _ _ c.if-s-gt4096.false, ← c.all_words.ensures, c.if-all_words.false, c.no_words-2.ensures)
