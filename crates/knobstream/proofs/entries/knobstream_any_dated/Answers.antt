use mathlib.Core.Path.{ap, ◌∙◌}
use Rattle.chronology.specs.Store.{store}
use Rattle.chronology.specs.Asked.{reply}
use Rattle.knobstream.specs.Entries.{told}
use Rattle.knobstream.proofs.Made.{same-days}
use borrow.Author.Rules.{rules}
use Rattle.knobstream.proofs.entries.knobstream_any_dated.Goals as goal

pub any_dated-requires : goal.any_dated-requires
any_dated-requires c = search rules

pub plain_reply-requires : goal.plain_reply-requires
plain_reply-requires c = search rules

pub returns : goal.returns
returns c =
    let a = c.args in
    let s = store a.count.now a.firsts.now a.lasts.now a.ids.now in
    c.plain_reply.ensures ∙ (ap told c.any_dated.ensures ∙ same-days a.first a.last c.ranges.first c.ranges.last (λ p. told (reply s p)))
