use Rattle.writer.specs.Texts.{panics}
use Rattle.puts.specs.Marks.{mark_text}
use native.Mathlib.Omega.{arith}
use Rattle.puts.proofs.Puts.{room, front, first_fits, both}
use Rattle.timed.specs.Texts.{value_text, timed_text}
use borrow.Author.Rules.{rules}
use Rattle.timed.proofs.put_timed.Goals as goal

pub put_timed_value-k-requires : goal.put_timed_value-k-requires
unfolding timed_text panics
put_timed_value-k-requires c =
    (c.requires.0, c.requires.1, omega (arith, first_fits (value_text c.args.d.value) (mark_text c.args.d.uncertain c.args.d.approximate) c.args.out.now 0 (front (timed_text c.args.d) c.args.out.now c.requires.2)))

pub returns : goal.returns
unfolding timed_text
returns c =
    let mark = mark_text c.args.d.uncertain c.args.d.approximate in
    both c.put_timed_value-k.ensures (c.put_mark.ensures.put (room c.put_timed_value-k.ensures mark (front (timed_text c.args.d) c.args.out.now c.requires.2)))
