use mathlib.Core.Path.{sym}
use lib.Seq.{length-take-le}
use Rattle.sheets.specs.Steps.{behind}
use native.Mathlib.Omega.{arith}
use Rattle.sheets.proofs.behind.Goals as goal

pub slice_bounds-count_feeds-end : goal.slice_bounds-count_feeds-end
slice_bounds-count_feeds-end c = sym (length-take-le _ _ (omega arith))

pub returns : goal.returns
unfolding behind
returns c = rw (c.plus.ensures, c.count_feeds-feeds.ensures)
