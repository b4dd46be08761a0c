use Rattle.reading_laws.specs.Field.{parsed_strict, match_by, parsed_by}
use Rattle.reader.proofs.Said.{carried}
use borrow.Author.Rules.{rules}
use Rattle.reader.proofs.any_strict.Goals as goal

pub returns : goal.returns
unfolding parsed_by match_by parsed_strict
returns c = let both = carried _ _ c.parse_by.ensures (c.pack.ensures.value, c.pack.ensures.typed) in record { value = both.0; typed = both.1 }
