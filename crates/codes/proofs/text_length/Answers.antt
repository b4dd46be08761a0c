use Rattle.codes.proofs.Writing.{plain-length, other_length}
use mathlib.Core.Path.{sym, ◌∙◌}
use borrow.Author.Rules.{rules}
use Rattle.codes.proofs.text_length.Goals as goal

pub returns-then-is_plain : goal.returns-then-is_plain
returns-then-is_plain c =
    plain-length c.args.first c.args.second c.args.last (sym c.is_plain.ensures ∙ c.if-is_plain.true) c.words_length.ensures

pub returns : goal.returns
returns c =
    other_length c.args.first c.args.second c.args.last (sym c.is_plain.ensures ∙ c.if-is_plain.false)
