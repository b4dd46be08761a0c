use borrow.Author.Rules.{rules}
use Rattle.knobstream.proofs.six.knobstream_parse_six_fields.Goals as goal

pub returns : goal.returns
returns c =
    let s = rw (c.list.ensures, c.list-2.ensures, c.list-3.ensures) at c.fields_of-start.ensures.lists in
    let e = rw (c.list-4.ensures, c.list-5.ensures, c.list-6.ensures) at c.end_fields-end.ensures in
    simp (← e _ _ s) c.read_into.ensures
