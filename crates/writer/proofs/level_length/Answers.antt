use native.Mathlib.Omega.{arith}
use mathlib.Core.Path.{sym, ◌∙◌}
use Rattle.writer.proofs.Pieces.{added}
use Rattle.puts.proofs.Answered.{has-length, panicked}
use Rattle.puts.specs.Marks.{mark_text}
use Rattle.writer.specs.Level.{level_value, level_text, level_panics}
use borrow.Author.Rules.{rules}
use Rattle.writer.proofs.level_length.Goals as goal

pub returns-then-level_value_panics : goal.returns-then-level_value_panics
unfolding level_panics level_text
returns-then-level_value_panics c =
    let e = added (level_value c.args.d.value) (mark_text c.args.d.uncertain c.args.d.approximate) c.level_value_length.ensures.0 c.mark_length.ensures.0 in
    record { value = panicked (level_text c.args.d) (sym c.level_value_panics.ensures ∙ c.if-level_value_panics.true) c.nowhere.ensures; d_len_bound = omega (arith, e, c.level_value_length.ensures.1, c.mark_length.ensures.1) }

pub returns : goal.returns
unfolding level_panics level_text
returns c =
    let e = added (level_value c.args.d.value) (mark_text c.args.d.uncertain c.args.d.approximate) c.level_value_length.ensures.0 c.mark_length.ensures.0 in
    record { value = has-length (level_text c.args.d) (sym c.level_value_panics.ensures ∙ c.if-level_value_panics.false) e; d_len_bound = omega (arith, e, c.level_value_length.ensures.1, c.mark_length.ensures.1) }
