use Prim.Native.Nat.{◌-◌}
use Rattle.codes.proofs.Writing.{plain-high, year-four, year-five}
use Rattle.puts.proofs.Puts.{as-text, both, room, first_fits, fits-as}
use native.Mathlib.Omega.{arith}
use mathlib.Core.List.{[], ◌∷◌}
use Rattle.puts.specs.Numbers.{digits}
use borrow.Author.Rules.{rules}
use Rattle.codes.proofs.put_year.Goals as goal

pub put_four-requires : goal.put_four-requires
put_four-requires c =
    (c.if-n-lt10000.true, fits-as c.args.out.now c.args.at (year-four c.args.n c.if-n-lt10000.true) c.requires.2)

pub returns-then-n-lt10000 : goal.returns-then-n-lt10000
returns-then-n-lt10000 c =
    as-text (year-four c.args.n c.if-n-lt10000.true) c.put_four.ensures

pub put_byte-k-requires : goal.put_byte-k-requires
put_byte-k-requires c =
    first_fits (45 ∷ []) (digits 4 (4294967296 - c.args.n)) c.args.out.now c.args.at (fits-as c.args.out.now c.args.at (year-five c.args.n c.if-n-lt10000.false) c.requires.2)

pub overflow_cast-n-2 : goal.overflow_cast-n-2
overflow_cast-n-2 c =
    record { fits = omega (arith, plain-high c.args.n c.requires.1 c.if-n-lt10000.false) }

pub put_four-requires-2 : goal.put_four-requires-2
put_four-requires-2 c =
    (omega (arith, plain-high c.args.n c.requires.1 c.if-n-lt10000.false), room c.put_byte-k.ensures (digits 4 (4294967296 - c.args.n)) (fits-as c.args.out.now c.args.at (year-five c.args.n c.if-n-lt10000.false) c.requires.2))

pub returns : goal.returns
returns c =
    as-text (year-five c.args.n c.if-n-lt10000.false) (both c.put_byte-k.ensures c.put_four-2.ensures)
