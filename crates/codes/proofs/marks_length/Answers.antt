use Rattle.codes.proofs.Writing.{uncertain-length, approximate-length, unmarked-length}
use Rattle.codes.proofs.marks_length.Goals as goal

pub returns-then-uncertain : goal.returns-then-uncertain
returns-then-uncertain c =
    uncertain-length c.args.uncertain c.args.approximate c.if-uncertain.true

pub returns-then-approximate : goal.returns-then-approximate
returns-then-approximate c =
    approximate-length c.args.uncertain c.args.approximate c.if-uncertain.false c.if-approximate.true

pub returns : goal.returns
returns c =
    unmarked-length c.args.uncertain c.args.approximate c.if-uncertain.false c.if-approximate.false
