use Rattle.days.proofs.Numbers.{added-fits, cast_fits, cast}
use Rattle.days.proofs.counted.Goals as goal

pub overflow_add-result : goal.overflow_add-result
overflow_add-result c = added-fits c.args.year c.ranges.year c.requires

pub overflow_cast-result : goal.overflow_cast-result
overflow_cast-result c = cast_fits c.args.year c.ranges.year c.requires

pub returns : goal.returns
returns c = cast c.args.year c.ranges.year c.requires
