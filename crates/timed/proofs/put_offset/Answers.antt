use Prim.Native.Char.{code}
use mathlib.Core.Path.{ap}
use Rattle.puts.proofs.Puts.{room, both, first_fits, fits-as, as-text}
use Rattle.timed.proofs.Pieces.{shift-text}
use Rattle.timed.specs.Texts.{field, offset_text}
use borrow.Author.Rules.{rules}
use Rattle.timed.proofs.put_offset.Goals as goal

pub enum_told-1 : goal.enum_told-1
enum_told-1 c = c.in-Utc.in-Utc-own.keys1

pub put_byte-requires : goal.put_byte-requires
unfolding offset_text
put_byte-requires c =
    fits-as c.args.out.now c.args.at (ap offset_text c.in-Utc.is) c.requires

pub enum_known-o : goal.enum_known-o
enum_known-o c = c.in-Offset.in-Offset-own.keys2

pub put_field-k-requires : goal.put_field-k-requires
put_field-k-requires c =
    first_fits (field c.sign.result c.in-Offset.hours) (field (code ":") c.in-Offset.minutes) c.args.out.now c.args.at (fits-as c.args.out.now c.args.at (shift-text c.in-Offset.positive c.in-Offset.hours c.in-Offset.minutes c.in-Offset.is c.sign.ensures) c.requires)

pub put_field-requires : goal.put_field-requires
put_field-requires c =
    room c.put_field-k.ensures (field (code ":") c.in-Offset.minutes) (fits-as c.args.out.now c.args.at (shift-text c.in-Offset.positive c.in-Offset.hours c.in-Offset.minutes c.in-Offset.is c.sign.ensures) c.requires)

pub returns-in-Utc : goal.returns-in-Utc
unfolding offset_text
returns-in-Utc c =
    as-text (ap offset_text c.in-Utc.is) c.put_byte.ensures

pub returns-in-Offset : goal.returns-in-Offset
returns-in-Offset c =
    as-text (shift-text c.in-Offset.positive c.in-Offset.hours c.in-Offset.minutes c.in-Offset.is c.sign.ensures) (both c.put_field-k.ensures c.put_field.ensures)
