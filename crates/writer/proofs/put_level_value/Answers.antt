use Rattle.chars.specs.Ascii.{ascii}
use Rattle.puts.proofs.Puts.{room, front-as, first_fits, as-text, both}
use Rattle.writer.specs.Level.{level_value, level_end}
use mathlib.Core.List.{◌++◌}
use mathlib.Core.Path.{ap}
use borrow.Author.Rules.{rules}
use Rattle.writer.proofs.put_level_value.Goals as goal

pub enum_known-v : goal.enum_known-v
enum_known-v c = c.in-At.in-At-own.keys1

pub put_level_end-requires : goal.put_level_end-requires
unfolding level_value
put_level_end-requires c =
    (front-as c.args.out.now (ap level_value c.in-At.is) c.requires)

pub enum_known-v-in-After-1 : goal.enum_known-v-in-After-1
enum_known-v-in-After-1 c = c.in-After.in-After-own.keys2

pub put_level_end-k-requires : goal.put_level_end-k-requires
unfolding level_value
put_level_end-k-requires c =
    first_fits (level_end c.in-After.d) (ascii "/..") c.args.out.now 0 (front-as c.args.out.now (ap level_value c.in-After.is) c.requires)

pub enum_known-v-in-Before-1 : goal.enum_known-v-in-Before-1
enum_known-v-in-Before-1 c = c.in-Before.in-Before-own.keys3

pub put_level_end-requires-in-Before : goal.put_level_end-requires-in-Before
unfolding level_value
put_level_end-requires-in-Before c =
    let d = level_end c.in-Before.d in
    let h = front-as c.args.out.now (ap level_value c.in-Before.is) c.requires in
    room (c.put_bytes-k.ensures.put (first_fits (ascii "../") d c.args.out.now 0 h)) d h

pub enum_known-v-in-Between-1 : goal.enum_known-v-in-Between-1
enum_known-v-in-Between-1 c = c.in-Between.in-Between-own.keys4

pub put_level_end-j-requires : goal.put_level_end-j-requires
unfolding level_value
put_level_end-j-requires c =
    first_fits (level_end c.in-Between.a) (ascii "/") c.args.out.now 0 (first_fits ((level_end c.in-Between.a) ++ (ascii "/")) (level_end c.in-Between.b) c.args.out.now 0 (front-as c.args.out.now (ap level_value c.in-Between.is) c.requires))

pub put_byte-k-requires : goal.put_byte-k-requires
unfolding level_value
put_byte-k-requires c =
    room c.put_level_end-j.ensures (ascii "/") (first_fits ((level_end c.in-Between.a) ++ (ascii "/")) (level_end c.in-Between.b) c.args.out.now 0 (front-as c.args.out.now (ap level_value c.in-Between.is) c.requires))

pub put_level_end-requires-in-Between : goal.put_level_end-requires-in-Between
unfolding level_value
put_level_end-requires-in-Between c =
    room (both c.put_level_end-j.ensures c.put_byte-k.ensures) (level_end c.in-Between.b) (front-as c.args.out.now (ap level_value c.in-Between.is) c.requires)

pub returns-in-At : goal.returns-in-At
unfolding level_value
returns-in-At c =
    as-text (ap level_value c.in-At.is) c.put_level_end.ensures

pub returns-in-After : goal.returns-in-After
unfolding level_value
returns-in-After c =
    let e = ap level_value c.in-After.is in
    let p = c.put_level_end-k.ensures in
    as-text e (both p (c.put_bytes.ensures.put (room p (ascii "/..") (front-as c.args.out.now e c.requires))))

pub returns-in-Before : goal.returns-in-Before
unfolding level_value
returns-in-Before c =
    let e = ap level_value c.in-Before.is in
    let h = first_fits (ascii "../") (level_end c.in-Before.d) c.args.out.now 0 (front-as c.args.out.now e c.requires) in
    as-text e (both (c.put_bytes-k.ensures.put h) c.put_level_end-in-Before.ensures)

pub returns-in-Between : goal.returns-in-Between
unfolding level_value
returns-in-Between c =
    as-text (ap level_value c.in-Between.is) (both (both c.put_level_end-j.ensures c.put_byte-k.ensures) c.put_level_end-in-Between.ensures)
