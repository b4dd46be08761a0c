use mathlib.Core.Path.{ap, ◌∙◌}
use Rattle.knobstream.specs.Entries.{counted}
use borrow.Author.Rules.{rules}
use Rattle.knobstream.proofs.entries.knobstream_count_entries.Goals as goal

pub count-requires : goal.count-requires
count-requires c = search rules

pub plain_entries-requires : goal.plain_entries-requires
plain_entries-requires c = search rules

pub returns : goal.returns
returns c = c.plain_entries.ensures ∙ ap counted c.count.ensures
