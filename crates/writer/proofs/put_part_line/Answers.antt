use Rattle.writer.specs.Fields.{line, prefix}
use Rattle.puts.specs.Numbers.{decimal}
use Rattle.writer.specs.Texts.{part_text}
use Rattle.puts.proofs.Puts.{both, first_fits, room}
use mathlib.Core.List.{[], ◌∷◌, ◌++◌}
use native.Mathlib.Omega.{arith}
use borrow.Author.Rules.{rules}
use Rattle.writer.proofs.put_part_line.Goals as goal

pub put_name-j-requires : goal.put_name-j-requires
unfolding line part_text
put_name-j-requires c =
    first_fits (prefix c.args.end ++ c.args.name.now) (decimal 2 c.args.n) c.args.out.now c.args.at (first_fits ((prefix c.args.end ++ c.args.name.now) ++ (decimal 2 c.args.n)) (10 ∷ []) c.args.out.now c.args.at c.requires)

pub put_decimal-k-requires : goal.put_decimal-k-requires
unfolding line part_text
put_decimal-k-requires c =
    (omega arith, room c.put_name-j.ensures (decimal 2 c.args.n) (first_fits ((prefix c.args.end ++ c.args.name.now) ++ (decimal 2 c.args.n)) (10 ∷ []) c.args.out.now c.args.at c.requires))

pub put_byte-requires : goal.put_byte-requires
unfolding line part_text
put_byte-requires c =
    room (both c.put_name-j.ensures c.put_decimal-k.ensures) (10 ∷ []) c.requires

pub returns : goal.returns
unfolding line part_text
returns c =
    both (both c.put_name-j.ensures c.put_decimal-k.ensures) c.put_byte.ensures
