use Rattle.pages.specs.Pieces.{pieces_of, put}
use Rattle.pages.proofs.Walk.{At}
use lib.ListN.{drop}
use mathlib.Core.Path.{◌≡◌}
use Rattle.pages.proofs.store.Given as goal

abbrev pub invariant-loop-i : goal.invariant-loop-i
invariant-loop-i l = At l.list.bytes.now l.list.table.now l.counts l.at l.row l.i × (put l.i (pieces_of (drop l.at l.list.bytes.now) (drop l.row l.list.table.now) (drop l.i l.counts)) l.out ≡ put 0 (pieces_of l.list.bytes.now l.list.table.now l.counts) l.initial.out)
