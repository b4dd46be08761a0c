use Rattle.codes.proofs.Writing.{four-split}
use Rattle.puts.proofs.Puts.{as-text, both}
use borrow.Author.Rules.{rules}
use Rattle.codes.proofs.put_four.Goals as goal

pub returns : goal.returns
returns c =
    as-text (four-split c.args.n c.requires.0) (both c.put_two-k.ensures c.put_two.ensures)
