use mathlib.Core.Path.{ap, ◌∙◌}
use Rattle.knobstream.specs.Entries.{counted}
use borrow.Author.Rules.{rules}
use Rattle.knobstream.proofs.entries.knobstream_list_entries.Goals as goal

pub list-requires : goal.list-requires
list-requires c = search rules

pub plain_entries-requires : goal.plain_entries-requires
plain_entries-requires c = search rules

pub shape_of-out : goal.shape_of-out
shape_of-out c = search rules

pub returns : goal.returns
returns c =
    record { value = c.plain_entries.ensures ∙ ap counted c.list.ensures.value; out_after = c.list.ensures.out_after }
