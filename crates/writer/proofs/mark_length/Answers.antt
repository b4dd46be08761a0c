use Rattle.writer.proofs.Pieces.{no_mark, other-mark, one-mark}
use Rattle.writer.proofs.mark_length.Goals as goal

pub returns-then-uncertain : goal.returns-then-uncertain
returns-then-uncertain c =
    one-mark c.args.approximate c.if-uncertain.true

pub returns-then-approximate : goal.returns-then-approximate
returns-then-approximate c =
    other-mark c.if-uncertain.false c.if-approximate.true

pub returns : goal.returns
returns c =
    no_mark c.if-uncertain.false c.if-approximate.false
