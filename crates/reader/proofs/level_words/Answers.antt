use Rattle.reading_laws.specs.Field.{parsed_level_one, match_by, parsed_by}
use Rattle.reader.proofs.Said.{carried}
use borrow.Author.Rules.{rules}
use Rattle.reader.proofs.level_words.Goals as goal

pub returns : goal.returns
unfolding parsed_by match_by parsed_level_one
returns c = let both = carried _ _ c.parse_by.ensures (c.pack.ensures.value, c.pack.ensures.typed) in record { value = both.0; typed = both.1 }
