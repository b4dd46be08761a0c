use native.Mathlib.Omega.{arith}
use Rattle.days.proofs.Months.{early, late-leap, late}
use Rattle.days.proofs.before_month.Goals as goal

pub returns-then-month-lt2 : goal.returns-then-month-lt2
returns-then-month-lt2 c = (early c.args.leap c.args.month c.if-month-lt2.true, omega arith)

pub returns-then-leap : goal.returns-then-leap
returns-then-leap c =
    (late-leap c.args.leap c.args.month c.if-leap.true c.if-month-lt2.false (omega arith), omega arith)

pub returns-else-leap : goal.returns-else-leap
returns-else-leap c =
    (late c.args.leap c.args.month c.if-leap.false c.if-month-lt2.false (omega arith), omega arith)
