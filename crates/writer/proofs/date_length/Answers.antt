use native.Mathlib.Omega.{arith}
use mathlib.Core.Path.{sym, ◌∙◌}
use Rattle.writer.proofs.Pieces.{added}
use Rattle.puts.proofs.Answered.{has-length, panicked}
use Rattle.writer.proofs.Answered.{has-season, unseasoned}
use Rattle.writer.specs.Texts.{panics, value_text, date_text}
use Rattle.puts.specs.Marks.{mark_text}
use borrow.Author.Rules.{rules}
use Rattle.writer.proofs.date_length.Goals as goal

pub returns-then-has_season : goal.returns-then-has_season
unfolding date_text
returns-then-has_season c =
    let e = added (value_text c.args.d.value) (mark_text c.args.d.uncertain c.args.d.approximate) c.value_length.ensures.0 c.mark_length.ensures.0 in
    record { value = has-season c.args.d (date_text c.args.d) c.has_season.ensures c.if-has_season.true c.nowhere.ensures; d_len_bound = λ _. omega (arith, e, c.value_length.ensures.1, c.mark_length.ensures.1) }

pub returns-then-value_panics : goal.returns-then-value_panics
unfolding panics date_text
returns-then-value_panics c =
    let e = added (value_text c.args.d.value) (mark_text c.args.d.uncertain c.args.d.approximate) c.value_length.ensures.0 c.mark_length.ensures.0 in
    let p = panicked (date_text c.args.d) (sym c.value_panics.ensures ∙ c.if-value_panics.true) c.nowhere-then-value_panics.ensures in
    record { value = unseasoned c.args.d (date_text c.args.d) c.has_season.ensures c.if-has_season.false p; d_len_bound = λ _. omega (arith, e, c.value_length.ensures.1, c.mark_length.ensures.1) }

pub returns : goal.returns
unfolding panics date_text
returns c =
    let e = added (value_text c.args.d.value) (mark_text c.args.d.uncertain c.args.d.approximate) c.value_length.ensures.0 c.mark_length.ensures.0 in
    record { value = unseasoned c.args.d (date_text c.args.d) c.has_season.ensures c.if-has_season.false (has-length (date_text c.args.d) (sym c.value_panics.ensures ∙ c.if-value_panics.false) e); d_len_bound = λ _. omega (arith, e, c.value_length.ensures.1, c.mark_length.ensures.1) }
