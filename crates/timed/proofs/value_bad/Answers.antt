use Rattle.timed.specs.Answers.{value_bad}
use borrow.Author.Rules.{rules}
use Rattle.timed.proofs.value_bad.Goals as goal

pub enum_known-v : goal.enum_known-v
enum_known-v c = c.in-At.in-At-own.keys1

pub enum_known-v-in-After-1 : goal.enum_known-v-in-After-1
enum_known-v-in-After-1 c = c.in-After.in-After-own.keys2

pub enum_known-v-in-Before-1 : goal.enum_known-v-in-Before-1
enum_known-v-in-Before-1 c = c.in-Before.in-Before-own.keys3

pub enum_known-v-in-Between-1 : goal.enum_known-v-in-Between-1
enum_known-v-in-Between-1 c = c.in-Between.in-Between-own.keys4

pub returns-then-has_bad_time : goal.returns-then-has_bad_time
unfolding value_bad
returns-then-has_bad_time c =
    simp (c.in-Between.is, ← c.has_bad_time-in-Between.ensures, c.if-has_bad_time.true)

pub returns-in-At : goal.returns-in-At
unfolding value_bad
returns-in-At c =
    simp (c.in-At.is, ← c.has_bad_time.ensures)

pub returns-in-After : goal.returns-in-After
unfolding value_bad
returns-in-After c =
    simp (c.in-After.is, ← c.has_bad_time-in-After.ensures)

pub returns-in-Before : goal.returns-in-Before
unfolding value_bad
returns-in-Before c =
    simp (c.in-Before.is, ← c.has_bad_time-in-Before.ensures)

pub returns-else-has_bad_time : goal.returns-else-has_bad_time
unfolding value_bad
returns-else-has_bad_time c =
    simp (c.in-Between.is, ← c.has_bad_time-in-Between.ensures, c.if-has_bad_time.false, ← c.has_bad_time-in-Between-2.ensures)
