use mathlib.Core.Path.{ap, ◌∙◌}
use Rattle.chronology.specs.Store.{store}
use Rattle.chronology.specs.Calls.{add_answer, after_add}
use Rattle.knobstream.specs.Entries.{counted}
use Rattle.knobstream.proofs.Made.{same-days}
use borrow.Author.Rules.{rules}
use Rattle.knobstream.proofs.entries.knobstream_add_entry.Goals as goal

pub add-requires : goal.add-requires
add-requires c = search rules

pub plain_entries-requires : goal.plain_entries-requires
plain_entries-requires c = search rules

pub returns : goal.returns
returns c =
    let a = c.args in
    let s = store a.count.now a.firsts.now a.lasts.now a.ids.now in
    let d = a.id in
    record { value = c.plain_entries.ensures ∙ (ap counted c.add.ensures.value ∙ same-days a.first a.last c.ranges.first c.ranges.last (λ p. counted (add_answer s p d))); ids_value = c.add.ensures.ids_value ∙ same-days a.first a.last c.ranges.first c.ranges.last (λ p. after_add s p d) }
