use Rattle.codes.specs.Back.{year_in, year_digits, month_digits, point_text}
use Rattle.codes.proofs.Writing.{word-year}
use Rattle.puts.proofs.Puts.{both, room, first_fits}
use native.Mathlib.Omega.{arith}
use borrow.Author.Rules.{rules}
use Rattle.codes.proofs.put_point.Goals as goal

pub put_year-k-requires : goal.put_year-k-requires
unfolding point_text
put_year-k-requires c =
    (omega arith, word-year c.args.w c.requires.0, first_fits (year_digits (year_in c.args.w)) (month_digits c.args.w) c.args.out.now c.args.at c.requires.1)

pub put_parts-requires : goal.put_parts-requires
unfolding point_text
put_parts-requires c =
    (c.requires.0, room c.put_year-k.ensures (month_digits c.args.w) c.requires.1)

pub returns : goal.returns
unfolding point_text
returns c =
    both c.put_year-k.ensures c.put_parts.ensures
