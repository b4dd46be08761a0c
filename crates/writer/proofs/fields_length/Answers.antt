use mathlib.Core.Path.{sym, ◌∙◌}
use Rattle.puts.proofs.Answered.{has-length, panicked}
use Rattle.writer.proofs.Answered.{has-season, unseasoned}
use Rattle.writer.specs.Texts.{panics}
use Rattle.writer.specs.Fields.{fields_text}
use borrow.Author.Rules.{rules}
use Rattle.writer.proofs.fields_length.Goals as goal

pub returns-then-has_season : goal.returns-then-has_season
returns-then-has_season c =
    has-season c.args.d (fields_text c.args.d) c.has_season.ensures c.if-has_season.true c.nowhere.ensures

pub returns-then-value_panics : goal.returns-then-value_panics
unfolding panics
returns-then-value_panics c =
    let p = panicked (fields_text c.args.d) (sym c.value_panics.ensures ∙ c.if-value_panics.true) c.nowhere-then-value_panics.ensures in
    unseasoned c.args.d (fields_text c.args.d) c.has_season.ensures c.if-has_season.false p

pub returns : goal.returns
unfolding panics fields_text
returns c =
    let n = has-length (fields_text c.args.d) (sym c.value_panics.ensures ∙ c.if-value_panics.false) c.value_lines_length.ensures.0 in
    unseasoned c.args.d (fields_text c.args.d) c.has_season.ensures c.if-has_season.false n
