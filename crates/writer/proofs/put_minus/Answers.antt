use Rattle.writer.proofs.Pieces.{has-minus, no_minus}
use Rattle.puts.proofs.Puts.{nothing, as-text}
use borrow.Author.Rules.{rules}
use Rattle.writer.proofs.put_minus.Goals as goal

pub put_byte-requires : goal.put_byte-requires
put_byte-requires c =
    rw (has-minus c.args.year c.ranges.year c.if-year-lt0.true) at c.requires

pub returns-then-year-lt0 : goal.returns-then-year-lt0
returns-then-year-lt0 c =
    as-text (has-minus c.args.year c.ranges.year c.if-year-lt0.true) c.put_byte.ensures

pub returns : goal.returns
returns c =
    as-text (no_minus c.args.year c.ranges.year c.if-year-lt0.false) (nothing c.args.out.now c.args.at)
