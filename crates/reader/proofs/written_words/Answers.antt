use mathlib.Core.Path.{sym, ap, ◌∙◌}
use Rattle.codes.specs.Words.{words_or}
use Rattle.reader.proofs.Said.{whole-written, none_written}
use borrow.Author.Rules.{rules}
use Rattle.reader.proofs.written_words.Goals as goal

pub returns-then-is_whole : goal.returns-then-is_whole
returns-then-is_whole c =
    c.text.ensures ∙ ap words_or (whole-written _ _ (sym c.is_whole.ensures ∙ c.if-is_whole.true))

pub returns : goal.returns
returns c =
    c.no_words.ensures ∙ ap words_or (none_written _ _ (sym c.is_whole.ensures ∙ c.if-is_whole.false))
