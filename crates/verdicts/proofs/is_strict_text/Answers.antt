use Rattle.verdicts.specs.Plain.{is_strict_text}
use Rattle.verdicts.proofs.Plain.{by-words}
use Rattle.verdicts.proofs.is_strict_text.Goals as goal

pub returns : goal.returns
unfolding is_strict_text
returns c = by-words _ (rw c.table_of-table.ensures at c.parse_strict_words-w.ensures.value)
