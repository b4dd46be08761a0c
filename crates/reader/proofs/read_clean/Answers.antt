use Rattle.reader.proofs.Lists.{all-readable, all-small}
use borrow.Author.Rules.{rules}
use Rattle.reader.proofs.read_clean.Goals as goal

pub read_fields-requires : goal.read_fields-requires
read_fields-requires c = all-small _ c.requires (c.are_small.ensures c.if-are_small.true)

pub read_fields-requires-2 : goal.read_fields-requires-2
read_fields-requires-2 c = all-readable _ c.requires
