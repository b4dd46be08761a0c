use Rattle.writer.specs.Texts.{datetime_text}
use Rattle.puts.proofs.Puts.{room, both, first_fits}
use Rattle.timed.specs.Texts.{time_text, end_text}
use borrow.Author.Rules.{rules}
use Rattle.timed.proofs.put_end.Goals as goal

pub put_datetime-k-requires : goal.put_datetime-k-requires
unfolding end_text
put_datetime-k-requires c =
    (c.requires.0, c.requires.1, first_fits (datetime_text c.args.d) (time_text c.args.d.time) c.args.out.now c.args.at c.requires.2)

pub put_time-requires : goal.put_time-requires
unfolding end_text
put_time-requires c =
    room c.put_datetime-k.ensures (time_text c.args.d.time) c.requires.2

pub returns : goal.returns
unfolding end_text
returns c =
    both c.put_datetime-k.ensures c.put_time.ensures
