use Rattle.pages.specs.Pieces.{pieces_of, judged}
use Rattle.pages.proofs.Walk.{At}
use lib.ListN.{length, drop}
use mathlib.Core.Path.{◌≡◌}
use Rattle.pages.proofs.judge.Given as goal

abbrev pub invariant-loop-n : goal.invariant-loop-n
invariant-loop-n l = At l.list.bytes.now l.list.table.now l.counts l.at l.row l.n-index × (judged (length l.counts) (pieces_of (drop l.at l.list.bytes.now) (drop l.row l.list.table.now) (drop l.n-index l.counts)) ≡ judged (length l.counts) (pieces_of l.list.bytes.now l.list.table.now l.counts))
