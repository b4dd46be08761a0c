use Rattle.chronology.proofs.Signs.{span-low, span-early}
use Rattle.chronology.proofs.in_span.Goals as goal

pub returns-then-day-ge-FIRST_DAY : goal.returns-then-day-ge-FIRST_DAY
returns-then-day-ge-FIRST_DAY c = span-low c.args.day c.ranges.day c.if-day-ge-FIRST_DAY.true

pub returns-else-day-ge-FIRST_DAY : goal.returns-else-day-ge-FIRST_DAY
returns-else-day-ge-FIRST_DAY c = span-early c.args.day c.ranges.day c.if-day-ge-FIRST_DAY.false
