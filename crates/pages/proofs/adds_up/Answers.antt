use Rattle.pages.specs.Pieces.{total, adds_up}
use Rattle.pages.proofs.Walk.{fours}
use lib.ListN.{length}
use borrow.Author.Rules.{rules}
use Rattle.pages.proofs.adds_up.Goals as goal

pub lengths_fit-requires : goal.lengths_fit-requires
lengths_fit-requires c = fours (total c.args.counts.now) (length c.args.list.table.now) c.counts_fit.ensures c.if-counts_fit.true

pub returns-then-counts_fit : goal.returns-then-counts_fit
unfolding adds_up
returns-then-counts_fit c =
    simp (← c.counts_fit.ensures, c.if-counts_fit.true, ← c.lengths_fit.ensures)

pub returns : goal.returns
unfolding adds_up
returns c =
    simp (← c.counts_fit.ensures, c.if-counts_fit.false)
