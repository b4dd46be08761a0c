use Rattle.puts.specs.Numbers.{digits}
use Prim.Native.Nat.{◌+◌, ◌/◌, ◌%◌}
use mathlib.Core.List.{[], ◌∷◌, ◌++◌}
use Rattle.puts.proofs.Puts.{room, both, first_fits}
use Rattle.timed.specs.Texts.{field}
use borrow.Author.Rules.{rules}
use Rattle.timed.proofs.put_field.Goals as goal

pub put_byte-i-requires : goal.put_byte-i-requires
unfolding field
put_byte-i-requires c =
    first_fits (c.args.c ∷ []) (digits 2 c.args.n) c.args.out.now c.args.at c.requires

pub put_byte-j-requires : goal.put_byte-j-requires
unfolding field
put_byte-j-requires c =
    room c.put_byte-i.ensures ((48 + c.args.n / 10 % 10) ∷ []) (first_fits ((c.args.c ∷ []) ++ ((48 + c.args.n / 10 % 10) ∷ [])) ((48 + c.args.n % 10) ∷ []) c.args.out.now c.args.at c.requires)

pub put_byte-requires : goal.put_byte-requires
unfolding field
put_byte-requires c =
    room (both c.put_byte-i.ensures c.put_byte-j.ensures) ((48 + c.args.n % 10) ∷ []) c.requires

pub returns : goal.returns
unfolding field
returns c =
    both (both c.put_byte-i.ensures c.put_byte-j.ensures) c.put_byte.ensures
