use Rattle.writer.specs.Level.{level_value_panics}
use borrow.Author.Rules.{rules}
use Rattle.writer.proofs.level_value_panics.Goals as goal

pub enum_known-v : goal.enum_known-v
enum_known-v c = c.in-At.in-At-own.keys1

pub enum_known-v-in-After-1 : goal.enum_known-v-in-After-1
enum_known-v-in-After-1 c = c.in-After.in-After-own.keys2

pub enum_known-v-in-Before-1 : goal.enum_known-v-in-Before-1
enum_known-v-in-Before-1 c = c.in-Before.in-Before-own.keys3

pub enum_known-v-in-Between-1 : goal.enum_known-v-in-Between-1
enum_known-v-in-Between-1 c = c.in-Between.in-Between-own.keys4

pub returns-then-level_end_panics : goal.returns-then-level_end_panics
unfolding level_value_panics
returns-then-level_end_panics c =
    simp (c.in-Between.is, ← c.level_end_panics-in-Between.ensures, c.if-level_end_panics.true)

pub returns-in-At : goal.returns-in-At
unfolding level_value_panics
returns-in-At c =
    simp (c.in-At.is, ← c.level_end_panics.ensures)

pub returns-in-After : goal.returns-in-After
unfolding level_value_panics
returns-in-After c =
    simp (c.in-After.is, ← c.level_end_panics-in-After.ensures)

pub returns-in-Before : goal.returns-in-Before
unfolding level_value_panics
returns-in-Before c =
    simp (c.in-Before.is, ← c.level_end_panics-in-Before.ensures)

pub returns-else-level_end_panics : goal.returns-else-level_end_panics
unfolding level_value_panics
returns-else-level_end_panics c =
    simp (c.in-Between.is, ← c.level_end_panics-in-Between.ensures, c.if-level_end_panics.false, ← c.level_end_panics-in-Between-2.ensures)
