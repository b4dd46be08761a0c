use Rattle.codes.specs.Back.{part_digits, month_in, day_in, day_digits}
use Rattle.codes.proofs.Writing.{word-month, word-day, no_month, some-month, month-only, month-day}
use Rattle.puts.proofs.Puts.{nothing, as-text, both, room, first_fits, fits-as}
use borrow.Author.Rules.{rules}
use Rattle.codes.proofs.put_parts.Goals as goal

pub returns-then-w-eq0 : goal.returns-then-w-eq0
returns-then-w-eq0 c =
    as-text (no_month c.args.w c.if-w-eq0.true) (nothing c.args.out.now c.args.at)

pub put_part-k-requires : goal.put_part-k-requires
unfolding part_digits
put_part-k-requires c =
    (word-month c.args.w c.requires.0, first_fits (part_digits (month_in c.args.w)) (day_digits c.args.w) c.args.out.now c.args.at (fits-as c.args.out.now c.args.at (some-month c.args.w c.if-w-eq0.false) c.requires.1))

pub returns-then-w-eq0-2 : goal.returns-then-w-eq0-2
returns-then-w-eq0-2 c =
    as-text (month-only c.args.w c.if-w-eq0.false c.if-w-eq0-2.true) c.put_part-k.ensures

pub put_part-requires : goal.put_part-requires
unfolding part_digits
put_part-requires c =
    (word-day c.args.w c.requires.0, room c.put_part-k.ensures (part_digits (day_in c.args.w)) (fits-as c.args.out.now c.args.at (month-day c.args.w c.if-w-eq0.false c.if-w-eq0-2.false) c.requires.1))

pub returns : goal.returns
returns c =
    as-text (month-day c.args.w c.if-w-eq0.false c.if-w-eq0-2.false) (both c.put_part-k.ensures c.put_part.ensures)
