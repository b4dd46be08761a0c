use Rattle.chars.specs.Ascii.{ascii}
use Rattle.puts.proofs.Puts.{room, front-as, first_fits, as-text, both}
use Rattle.writer.specs.Texts.{value_text, datetime_text}
use mathlib.Core.List.{◌++◌}
use native.Mathlib.Omega.{arith}
use mathlib.Core.Path.{ap}
use borrow.Author.Rules.{rules}
use Rattle.writer.proofs.put_value.Goals as goal

pub enum_known-v : goal.enum_known-v
enum_known-v c = c.in-At.in-At-own.keys1

pub put_datetime-requires : goal.put_datetime-requires
unfolding value_text
put_datetime-requires c =
    omega (arith, (front-as c.args.out.now (ap value_text c.in-At.is) c.requires))

pub enum_known-v-in-After-1 : goal.enum_known-v-in-After-1
enum_known-v-in-After-1 c = c.in-After.in-After-own.keys2

pub put_datetime-k-requires : goal.put_datetime-k-requires
unfolding value_text
put_datetime-k-requires c =
    omega (arith, first_fits (datetime_text c.in-After.d) (ascii "/..") c.args.out.now 0 (front-as c.args.out.now (ap value_text c.in-After.is) c.requires))

pub enum_known-v-in-Before-1 : goal.enum_known-v-in-Before-1
enum_known-v-in-Before-1 c = c.in-Before.in-Before-own.keys3

pub put_rest-requires : goal.put_rest-requires
unfolding value_text
put_rest-requires c =
    let d = datetime_text c.in-Before.d in
    let h = front-as c.args.out.now (ap value_text c.in-Before.is) c.requires in
    room (c.put_bytes-k.ensures.put (first_fits (ascii "../") d c.args.out.now 0 h)) d h

pub enum_known-v-in-Between-1 : goal.enum_known-v-in-Between-1
enum_known-v-in-Between-1 c = c.in-Between.in-Between-own.keys4

pub put_datetime-j-requires : goal.put_datetime-j-requires
unfolding value_text
put_datetime-j-requires c =
    omega (arith, first_fits (datetime_text c.in-Between.a) (ascii "/") c.args.out.now 0 (first_fits ((datetime_text c.in-Between.a) ++ (ascii "/")) (datetime_text c.in-Between.b) c.args.out.now 0 (front-as c.args.out.now (ap value_text c.in-Between.is) c.requires)))

pub put_byte-k-requires : goal.put_byte-k-requires
unfolding value_text
put_byte-k-requires c =
    room c.put_datetime-j.ensures (ascii "/") (first_fits ((datetime_text c.in-Between.a) ++ (ascii "/")) (datetime_text c.in-Between.b) c.args.out.now 0 (front-as c.args.out.now (ap value_text c.in-Between.is) c.requires))

pub put_rest-requires-in-Between : goal.put_rest-requires-in-Between
unfolding value_text
put_rest-requires-in-Between c =
    room (both c.put_datetime-j.ensures c.put_byte-k.ensures) (datetime_text c.in-Between.b) (front-as c.args.out.now (ap value_text c.in-Between.is) c.requires)

pub returns-in-At : goal.returns-in-At
unfolding value_text
returns-in-At c =
    as-text (ap value_text c.in-At.is) c.put_datetime.ensures

pub returns-in-After : goal.returns-in-After
unfolding value_text
returns-in-After c =
    let e = ap value_text c.in-After.is in
    let p = c.put_datetime-k.ensures in
    as-text e (both p (c.put_bytes.ensures.put (room p (ascii "/..") (front-as c.args.out.now e c.requires))))

pub returns-in-Before : goal.returns-in-Before
unfolding value_text
returns-in-Before c =
    let e = ap value_text c.in-Before.is in
    let h = first_fits (ascii "../") (datetime_text c.in-Before.d) c.args.out.now 0 (front-as c.args.out.now e c.requires) in
    as-text e (both (c.put_bytes-k.ensures.put h) c.put_rest.ensures)

pub returns-in-Between : goal.returns-in-Between
unfolding value_text
returns-in-Between c =
    as-text (ap value_text c.in-Between.is) (both (both c.put_datetime-j.ensures c.put_byte-k.ensures) c.put_rest-in-Between.ensures)
