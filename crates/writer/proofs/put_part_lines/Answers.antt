use Rattle.writer.specs.Texts.{part_text}
use Rattle.writer.specs.Fields.{part_lines, line}
use Rattle.chars.specs.Ascii.{ascii}
use Rattle.puts.proofs.Puts.{both, first_fits, fits-as, room, as-text, nothing}
use mathlib.Core.Path.{ap}
use borrow.Author.Rules.{rules}
use Rattle.writer.proofs.put_part_lines.Goals as goal

pub enum_told-1 : goal.enum_told-1
enum_told-1 c = c.in-NoParts.in-NoParts-own.keys1

pub enum_known-p : goal.enum_known-p
enum_known-p c = c.in-WithMonth.in-WithMonth-own.keys2

pub put_part_line-requires : goal.put_part_line-requires
unfolding part_lines
put_part_line-requires c =
    fits-as c.args.out.now c.args.at (ap (part_lines c.args.end) c.in-WithMonth.is) c.requires

pub enum_known-p-in-WithDay-1 : goal.enum_known-p-in-WithDay-1
enum_known-p-in-WithDay-1 c = c.in-WithDay.in-WithDay-own.keys3

pub put_part_line-k-requires : goal.put_part_line-k-requires
unfolding part_lines
put_part_line-k-requires c =
    first_fits (line c.args.end (ascii "month=") (part_text c.in-WithDay.m.0)) (line c.args.end (ascii "day=") (part_text c.in-WithDay.d.0)) c.args.out.now c.args.at (fits-as c.args.out.now c.args.at (ap (part_lines c.args.end) c.in-WithDay.is) c.requires)

pub put_part_line-requires-in-WithDay : goal.put_part_line-requires-in-WithDay
unfolding part_lines
put_part_line-requires-in-WithDay c =
    room c.put_part_line-k.ensures (line c.args.end (ascii "day=") (part_text c.in-WithDay.d.0)) (fits-as c.args.out.now c.args.at (ap (part_lines c.args.end) c.in-WithDay.is) c.requires)

pub enum_told-in-TooLarge : goal.enum_told-in-TooLarge
enum_told-in-TooLarge c = c.in-TooLarge.in-TooLarge-own.keys4

pub returns-in-NoParts : goal.returns-in-NoParts
unfolding part_lines
returns-in-NoParts c =
    as-text (ap (part_lines c.args.end) c.in-NoParts.is) (nothing c.args.out.now c.args.at)

pub returns-in-WithMonth : goal.returns-in-WithMonth
unfolding part_lines
returns-in-WithMonth c =
    as-text (ap (part_lines c.args.end) c.in-WithMonth.is) c.put_part_line.ensures

pub returns-in-WithDay : goal.returns-in-WithDay
unfolding part_lines
returns-in-WithDay c =
    as-text (ap (part_lines c.args.end) c.in-WithDay.is) (both c.put_part_line-k.ensures c.put_part_line-in-WithDay.ensures)

pub returns-in-TooLarge : goal.returns-in-TooLarge
unfolding part_lines
returns-in-TooLarge c =
    as-text (ap (part_lines c.args.end) c.in-TooLarge.is) (nothing c.args.out.now c.args.at)
