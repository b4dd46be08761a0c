use Rattle.days.proofs.Numbers.{above-test, below-test}
use Rattle.days.proofs.in_years.Goals as goal

pub returns-then-year-gtminus10000 : goal.returns-then-year-gtminus10000
returns-then-year-gtminus10000 c = above-test c.args.year c.ranges.year c.if-year-gtminus10000.true

pub returns-else-year-gtminus10000 : goal.returns-else-year-gtminus10000
returns-else-year-gtminus10000 c = below-test c.args.year c.ranges.year c.if-year-gtminus10000.false
