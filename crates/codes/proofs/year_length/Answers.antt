use mathlib.Core.Path.{sym, ap}
use lib.ListN.{length}
use Rattle.codes.proofs.Writing.{year-four, year-five}
use native.Mathlib.Omega.{arith}
use Rattle.codes.proofs.year_length.Goals as goal

pub returns-then-n-lt10000 : goal.returns-then-n-lt10000
returns-then-n-lt10000 c =
    (sym (ap length (year-four c.args.n c.if-n-lt10000.true)), omega arith)

pub returns : goal.returns
returns c =
    (sym (ap length (year-five c.args.n c.if-n-lt10000.false)), omega arith)
