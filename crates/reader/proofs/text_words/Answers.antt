use Rattle.reader.proofs.Said.{carried}
use borrow.Author.Rules.{rules}
use Rattle.reader.proofs.text_words.Goals as goal

pub returns : goal.returns
returns c = let both = carried _ _ c.parse_text.ensures (c.pack.ensures.value, c.pack.ensures.typed) in record { value = both.0; typed = both.1 }
