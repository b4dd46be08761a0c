use Rattle.writer.specs.Fields.{end_lines, value_lines}
use Rattle.puts.proofs.Puts.{both, first_fits, room, as-text, front-as}
use mathlib.Core.Bool.{true, false}
use mathlib.Core.Path.{ap}
use borrow.Author.Rules.{rules}
use Rattle.writer.proofs.put_value_lines.Goals as goal

pub enum_known-v : goal.enum_known-v
enum_known-v c = c.in-At.in-At-own.keys1

pub put_end_lines-requires : goal.put_end_lines-requires
unfolding value_lines
put_end_lines-requires c =
    front-as c.args.out.now (ap value_lines c.in-At.is) c.requires

pub enum_known-v-in-After-1 : goal.enum_known-v-in-After-1
enum_known-v-in-After-1 c = c.in-After.in-After-own.keys2

pub put_end_lines-requires-in-After : goal.put_end_lines-requires-in-After
unfolding value_lines
put_end_lines-requires-in-After c =
    front-as c.args.out.now (ap value_lines c.in-After.is) c.requires

pub enum_known-v-in-Before-1 : goal.enum_known-v-in-Before-1
enum_known-v-in-Before-1 c = c.in-Before.in-Before-own.keys3

pub put_end_lines-requires-in-Before : goal.put_end_lines-requires-in-Before
unfolding value_lines
put_end_lines-requires-in-Before c =
    front-as c.args.out.now (ap value_lines c.in-Before.is) c.requires

pub enum_known-v-in-Between-1 : goal.enum_known-v-in-Between-1
enum_known-v-in-Between-1 c = c.in-Between.in-Between-own.keys4

pub put_end_lines-k-requires : goal.put_end_lines-k-requires
unfolding value_lines
put_end_lines-k-requires c =
    first_fits (end_lines false c.in-Between.a) (end_lines true c.in-Between.b) c.args.out.now 0 (front-as c.args.out.now (ap value_lines c.in-Between.is) c.requires)

pub put_end_lines-requires-in-Between : goal.put_end_lines-requires-in-Between
unfolding value_lines
put_end_lines-requires-in-Between c =
    room c.put_end_lines-k.ensures (end_lines true c.in-Between.b) (front-as c.args.out.now (ap value_lines c.in-Between.is) c.requires)

pub returns-in-At : goal.returns-in-At
unfolding value_lines
returns-in-At c =
    as-text (ap value_lines c.in-At.is) c.put_end_lines.ensures

pub returns-in-After : goal.returns-in-After
unfolding value_lines
returns-in-After c =
    as-text (ap value_lines c.in-After.is) c.put_end_lines-in-After.ensures

pub returns-in-Before : goal.returns-in-Before
unfolding value_lines
returns-in-Before c =
    as-text (ap value_lines c.in-Before.is) c.put_end_lines-in-Before.ensures

pub returns-in-Between : goal.returns-in-Between
unfolding value_lines
returns-in-Between c =
    as-text (ap value_lines c.in-Between.is) (both c.put_end_lines-k.ensures c.put_end_lines-in-Between.ensures)
