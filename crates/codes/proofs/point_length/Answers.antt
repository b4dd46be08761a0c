use Rattle.codes.proofs.Writing.{year-alone, with-month, with-day}
use borrow.Author.Rules.{rules}
use Rattle.codes.proofs.point_length.Goals as goal

pub returns-then-w-ne0-2 : goal.returns-then-w-ne0-2
returns-then-w-ne0-2 c =
    with-day c.args.w c.year_length-n.ensures c.if-w-ne0.true c.if-w-ne0-2.true

pub returns-then-w-ne0 : goal.returns-then-w-ne0
returns-then-w-ne0 c =
    with-month c.args.w c.year_length-n.ensures c.if-w-ne0.true c.if-w-ne0-2.false

pub returns : goal.returns
returns c =
    year-alone c.args.w c.year_length-n.ensures c.if-w-ne0.false
