use Rattle.writer.proofs.Pieces.{no_sign, has-sign}
use lib.ListN.{length}
use native.Mathlib.Omega.{arith}
use mathlib.Core.Path.{sym, ap}
use borrow.Author.Rules.{rules}
use Rattle.writer.proofs.long_sign_length.Goals as goal

pub returns-then-is_short : goal.returns-then-is_short
returns-then-is_short c =
    (sym (ap length (no_sign c.args.year c.ranges.year c.is_short.ensures c.if-is_short.true)), omega arith)

pub returns : goal.returns
returns c =
    (sym (ap length (has-sign c.args.year c.ranges.year c.is_short.ensures c.if-is_short.false)), omega arith)
