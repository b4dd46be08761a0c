use Rattle.puts.specs.Numbers.{decimal}
use Rattle.puts.proofs.Puts.{room, both, first_fits}
use Rattle.writer.specs.Texts.{part_text, hyphen_part}
use mathlib.Core.List.{[], ◌∷◌}
use native.Mathlib.Omega.{arith}
use borrow.Author.Rules.{rules}
use Rattle.writer.proofs.put_hyphen_part.Goals as goal

pub put_byte-k-requires : goal.put_byte-k-requires
unfolding hyphen_part part_text
put_byte-k-requires c =
    first_fits (45 ∷ []) (decimal 2 c.args.n) c.args.out.now c.args.at c.requires

pub put_decimal-requires : goal.put_decimal-requires
unfolding hyphen_part part_text
put_decimal-requires c =
    (omega arith, room c.put_byte-k.ensures (decimal 2 c.args.n) c.requires)

pub returns : goal.returns
unfolding hyphen_part part_text
returns c =
    both c.put_byte-k.ensures c.put_decimal.ensures
