use Rattle.frames.specs.Room.{read_lists}
use Rattle.frames.proofs.Said.{carried}
use Rattle.reader.proofs.Flags.{same-fields}
use borrow.Author.Rules.{rules}
use Rattle.frames.proofs.read_lists.Goals as goal

pub returns : goal.returns
unfolding read_lists
returns c =
    let a = c.args in
    let both = carried (same-fields _ _ _ a.has_month a.has_day c.then_some.ensures c.then_some-2.ensures) (c.three_words.ensures.value, c.three_words.ensures.typed) in record { value = both.0; typed = both.1 }
