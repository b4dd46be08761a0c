use Rattle.answers.proofs.Digits.{packed}
use borrow.Author.Rules.{rules}
use Rattle.answers.proofs.marks.Goals as goal

pub returns : goal.returns
returns c =
    rw (c.bit.ensures, c.bit-2.ensures) (packed c.args.uncertain c.args.approximate)
