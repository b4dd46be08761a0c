use Rattle.codes.specs.Back.{part_digits}
use Rattle.puts.proofs.Puts.{both}
use borrow.Author.Rules.{rules}
use Rattle.codes.proofs.put_part.Goals as goal

pub returns : goal.returns
unfolding part_digits
returns c =
    both c.put_byte-k.ensures c.put_two.ensures
