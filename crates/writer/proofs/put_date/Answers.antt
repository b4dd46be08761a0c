use Rattle.puts.proofs.Puts.{both, front, room, first_fits}
use Rattle.writer.specs.Texts.{value_text, date_text}
use Rattle.puts.specs.Marks.{mark_text}
use native.Mathlib.Omega.{arith}
use borrow.Author.Rules.{rules}
use Rattle.writer.proofs.put_date.Goals as goal

pub put_value-k-requires : goal.put_value-k-requires
unfolding date_text
put_value-k-requires c =
    omega (arith, first_fits (value_text c.args.d.value) (mark_text c.args.d.uncertain c.args.d.approximate) c.args.out.now 0 (front (date_text c.args.d) c.args.out.now c.requires))

pub returns : goal.returns
unfolding date_text
returns c =
    let mark = mark_text c.args.d.uncertain c.args.d.approximate in
    both c.put_value-k.ensures (c.put_mark.ensures.put (room c.put_value-k.ensures mark (front (date_text c.args.d) c.args.out.now c.requires)))
