use Rattle.knobstream.proofs.Made.{made-compared}
use borrow.Author.Rules.{rules}
use Rattle.knobstream.proofs.knobstream_compare.Goals as goal

pub returns : goal.returns
returns c =
    made-compared c.datetime_of-x.ensures c.datetime_of-y.ensures c.partial_cmp.ensures c.plain_compared.ensures
