use Rattle.writer.proofs.Pieces.{no_sign, has-sign}
use Rattle.puts.proofs.Puts.{nothing, as-text}
use borrow.Author.Rules.{rules}
use Rattle.writer.proofs.put_long_sign.Goals as goal

pub returns-then-is_short : goal.returns-then-is_short
returns-then-is_short c =
    as-text (no_sign c.args.year c.ranges.year c.is_short.ensures c.if-is_short.true) (nothing c.args.out.now c.args.at)

pub put_byte-requires : goal.put_byte-requires
put_byte-requires c =
    rw (has-sign c.args.year c.ranges.year c.is_short.ensures c.if-is_short.false) at c.requires

pub returns : goal.returns
returns c =
    as-text (has-sign c.args.year c.ranges.year c.is_short.ensures c.if-is_short.false) c.put_byte.ensures
