use Rattle.codes.proofs.Writing.{point-length, open-length, closed-length}
use borrow.Author.Rules.{rules}
use Rattle.codes.proofs.shaped_length.Goals as goal

pub returns-then-shape-eq0 : goal.returns-then-shape-eq0
returns-then-shape-eq0 c =
    point-length c.args.shape c.args.a c.args.b c.point_length-n.ensures c.if-shape-eq0.true

pub returns-then-shape-lt3 : goal.returns-then-shape-lt3
returns-then-shape-lt3 c =
    open-length c.args.shape c.args.a c.args.b c.point_length-n.ensures c.if-shape-eq0.false c.if-shape-lt3.true

pub returns : goal.returns
returns c =
    closed-length c.args.shape c.args.a c.args.b c.point_length-n.ensures c.point_length.ensures c.if-shape-eq0.false c.if-shape-lt3.false
