use mathlib.Core.Path.{sym, ap, ◌∙◌}
use lib.Seq.{length-take-le}
use Rattle.codes.specs.Words.{words_or}
use borrow.Author.Rules.{rules}
use Rattle.reader.proofs.usual_words.Goals as goal

pub slice_bounds-text-end : goal.slice_bounds-text-end
slice_bounds-text-end c = sym (length-take-le _ _ c.usual_length-n.ensures.1)

pub returns : goal.returns
returns c = c.text.ensures ∙ ap words_or c.usual_length-n.ensures.0
