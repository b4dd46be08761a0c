use Rattle.scanner.specs.Scan.{done_at}
use Rattle.datefield.specs.Text.{is_blank}
use borrow.Author.Rules.{rules}
use Rattle.sixfields.proofs.is_blank.Goals as goal

pub returns : goal.returns
unfolding is_blank done_at
returns c =
    simp (← c.eat_whitespace-c.ensures, ← c.done.ensures)
