use mathlib.Core.Path.{ap, ◌∙◌}
use Rattle.knobstream.specs.Entries.{counted}
use borrow.Author.Rules.{rules}
use Rattle.knobstream.proofs.entries.knobstream_remove_entry.Goals as goal

pub remove-requires : goal.remove-requires
remove-requires c = search rules

pub plain_entries-requires : goal.plain_entries-requires
plain_entries-requires c = search rules

pub returns : goal.returns
returns c = record { value = c.plain_entries.ensures ∙ ap counted c.remove.ensures.value; ids_value = c.remove.ensures.ids_value }
