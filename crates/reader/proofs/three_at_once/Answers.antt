use mathlib.Core.Path.{◌∙◌}
use native.Mathlib.Omega.{arith}
use Rattle.chunks.specs.Lent.{Three}
use Rattle.reader.specs.Fields.{three_of}
use Rattle.codes.specs.Words.{words_or}
use Rattle.codes.specs.Lists.{day_or, list_three}
use Rattle.reader.proofs.Fields.{Joined, joined}
use borrow.Author.Rules.{rules}
use Rattle.reader.proofs.three_at_once.Goals as goal
use Rattle.reader.proofs.three_at_once.Goals.{After-day_at_once-d}

module _ (c : After-day_at_once-d) where
  abbrev lists : Three
  lists = three_of c.args.fields

  parts : Joined c.year_at_once-y.result c.month_at_once-m.result c.day_at_once-d.result (words_or (list_three lists))
  unfolding day_or
  parts = joined lists c.year_at_once-y.ensures c.month_at_once-m.ensures c.day_at_once-d.ensures

pub returns-then-y : goal.returns-then-y
returns-then-y c = c.no_words.ensures ∙ (parts (goal.at.returns-then-y c).After-day_at_once-d).no_year c.if-y.true

pub returns-then-m : goal.returns-then-m
returns-then-m c = c.no_words-then-m.ensures ∙ (parts (goal.at.returns-then-m c).After-day_at_once-d).no_month c.if-m.true

pub returns-then-d : goal.returns-then-d
returns-then-d c = c.no_words-then-d.ensures ∙ (parts (goal.at.returns-then-d c).After-day_at_once-d).no_day c.if-d.true

pub overflow_add-y : goal.overflow_add-y
overflow_add-y c =
    let r = (parts (goal.at.overflow_add-y c).After-day_at_once-d).room c.if-y.false c.if-m.false c.if-d.false in
    record { fits = omega arith }

pub overflow_add-y-2 : goal.overflow_add-y-2
overflow_add-y-2 c =
    let r = (parts (goal.at.overflow_add-y-2 c).After-day_at_once-d).room c.if-y.false c.if-m.false c.if-d.false in
    record { fits = omega arith }

pub returns : goal.returns
returns c =
    c.at_word.ensures ∙ (parts (goal.at.returns c).After-day_at_once-d).said c.if-y.false c.if-m.false c.if-d.false
