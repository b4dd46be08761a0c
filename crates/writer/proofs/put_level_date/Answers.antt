use Rattle.puts.proofs.Puts.{both, front, room, first_fits}
use Rattle.puts.specs.Marks.{mark_text}
use Rattle.writer.specs.Level.{level_value, level_text}
use native.Mathlib.Omega.{arith}
use borrow.Author.Rules.{rules}
use Rattle.writer.proofs.put_level_date.Goals as goal

pub put_level_value-j-requires : goal.put_level_value-j-requires
unfolding level_text
put_level_value-j-requires c =
    omega (arith, first_fits (level_value c.args.d.value) (mark_text c.args.d.uncertain c.args.d.approximate) c.args.out.now 0 (front (level_text c.args.d) c.args.out.now c.requires))

pub returns : goal.returns
unfolding level_text
returns c =
    let mark = mark_text c.args.d.uncertain c.args.d.approximate in
    both c.put_level_value-j.ensures (c.put_mark.ensures.put (room c.put_level_value-j.ensures mark (front (level_text c.args.d) c.args.out.now c.requires)))
