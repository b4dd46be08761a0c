use borrow.Author.Rules.{rules}
use Rattle.codes.proofs.one_words.Goals as goal

pub returns : goal.returns
returns c =
    record { value = rw (c.datetime_word.ensures.value, c.time_word.ensures.value); datetime_typed = record { year_typed = c.datetime_word.ensures.year_bound.0; bytes_typed = (c.datetime_word.ensures.year_bound.1.0, (c.datetime_word.ensures.year_bound.1.1, c.time_word.ensures.bytes)) } }
