use mathlib.Core.Path.{ap, ◌∙◌}
use Rattle.codes.specs.Unpacked.{read_in}
use Rattle.codes.proofs.Unpacking.{read_back}
use borrow.Author.Rules.{rules}
use Rattle.reader.proofs.parse_three_fields.Goals as goal

pub returns : goal.returns
returns c = c.unpack.ensures ∙ ap read_in c.three_words.ensures.value ∙ read_back _ c.three_words.ensures.typed
