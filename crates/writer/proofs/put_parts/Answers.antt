use Rattle.writer.specs.Texts.{hyphen_part, parts_text}
use Rattle.puts.proofs.Puts.{first_fits, room, both, as-text, nothing, fits-as}
use mathlib.Core.Path.{ap}
use borrow.Author.Rules.{rules}
use Rattle.writer.proofs.put_parts.Goals as goal

pub enum_told-1 : goal.enum_told-1
enum_told-1 c = c.in-NoParts.in-NoParts-own.keys1

pub enum_known-p : goal.enum_known-p
enum_known-p c = c.in-WithMonth.in-WithMonth-own.keys2

pub put_hyphen_part-requires : goal.put_hyphen_part-requires
unfolding parts_text
put_hyphen_part-requires c =
    fits-as c.args.out.now c.args.at (ap parts_text c.in-WithMonth.is) c.requires

pub enum_known-p-in-WithDay-1 : goal.enum_known-p-in-WithDay-1
enum_known-p-in-WithDay-1 c = c.in-WithDay.in-WithDay-own.keys3

pub put_hyphen_part-k-requires : goal.put_hyphen_part-k-requires
unfolding parts_text
put_hyphen_part-k-requires c =
    first_fits (hyphen_part c.in-WithDay.m.0) (hyphen_part c.in-WithDay.d.0) c.args.out.now c.args.at (fits-as c.args.out.now c.args.at (ap parts_text c.in-WithDay.is) c.requires)

pub put_hyphen_part-requires-in-WithDay : goal.put_hyphen_part-requires-in-WithDay
unfolding parts_text
put_hyphen_part-requires-in-WithDay c =
    room c.put_hyphen_part-k.ensures (hyphen_part c.in-WithDay.d.0) (fits-as c.args.out.now c.args.at (ap parts_text c.in-WithDay.is) c.requires)

pub enum_told-in-TooLarge : goal.enum_told-in-TooLarge
enum_told-in-TooLarge c = c.in-TooLarge.in-TooLarge-own.keys4

pub returns-in-NoParts : goal.returns-in-NoParts
unfolding parts_text
returns-in-NoParts c =
    as-text (ap parts_text c.in-NoParts.is) (nothing c.args.out.now c.args.at)

pub returns-in-WithMonth : goal.returns-in-WithMonth
unfolding parts_text
returns-in-WithMonth c =
    as-text (ap parts_text c.in-WithMonth.is) c.put_hyphen_part.ensures

pub returns-in-WithDay : goal.returns-in-WithDay
unfolding parts_text
returns-in-WithDay c =
    as-text (ap parts_text c.in-WithDay.is) (both c.put_hyphen_part-k.ensures c.put_hyphen_part-in-WithDay.ensures)

pub returns-in-TooLarge : goal.returns-in-TooLarge
unfolding parts_text
returns-in-TooLarge c =
    as-text (ap parts_text c.in-TooLarge.is) (nothing c.args.out.now c.args.at)
