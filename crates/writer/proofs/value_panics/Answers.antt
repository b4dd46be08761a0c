use Rattle.writer.specs.Texts.{value_panics}
use borrow.Author.Rules.{rules}
use Rattle.writer.proofs.value_panics.Goals as goal

pub enum_known-v : goal.enum_known-v
enum_known-v c = c.in-At.in-At-own.keys1

pub enum_known-v-in-After-1 : goal.enum_known-v-in-After-1
enum_known-v-in-After-1 c = c.in-After.in-After-own.keys2

pub enum_known-v-in-Before-1 : goal.enum_known-v-in-Before-1
enum_known-v-in-Before-1 c = c.in-Before.in-Before-own.keys3

pub enum_known-v-in-Between-1 : goal.enum_known-v-in-Between-1
enum_known-v-in-Between-1 c = c.in-Between.in-Between-own.keys4

pub returns-then-end_panics : goal.returns-then-end_panics
unfolding value_panics
returns-then-end_panics c =
    simp (c.in-Between.is, ← c.end_panics-in-Between.ensures, c.if-end_panics.true)

pub returns-in-At : goal.returns-in-At
unfolding value_panics
returns-in-At c =
    simp (c.in-At.is, ← c.end_panics.ensures)

pub returns-in-After : goal.returns-in-After
unfolding value_panics
returns-in-After c =
    simp (c.in-After.is, ← c.end_panics-in-After.ensures)

pub returns-in-Before : goal.returns-in-Before
unfolding value_panics
returns-in-Before c =
    simp (c.in-Before.is, ← c.end_panics-in-Before.ensures)

pub returns-else-end_panics : goal.returns-else-end_panics
unfolding value_panics
returns-else-end_panics c =
    simp (c.in-Between.is, ← c.end_panics-in-Between.ensures, c.if-end_panics.false, ← c.end_panics-in-Between-2.ensures)
