use mathlib.Core.Path.{sym, ◌∙◌}
use borrow.Author.Rules.{rules}
use Rattle.chunks.proofs.upper_all.Goals as goal

pub upper_bytes-requires : goal.upper_bytes-requires
upper_bytes-requires c = sym c.all_ascii.ensures ∙ c.if-all_ascii.true

pub upper_latin-requires : goal.upper_latin-requires
upper_latin-requires c =
    (sym c.all_latin.ensures ∙ c.if-all_latin.true, sym c.none_odd.ensures ∙ c.if-none_odd.true)
