use borrow.Author.Rules.{rules}
use Rattle.dates.proofs.DateValue.has_season.Goals as goal

pub enum_known-self : goal.enum_known-self
enum_known-self c = c.in-At.in-At-own.keys1

pub has_season-requires : goal.has_season-requires
has_season-requires c = search rules

pub enum_known-self-in-After-1 : goal.enum_known-self-in-After-1
enum_known-self-in-After-1 c = c.in-After.in-After-own.keys2

pub has_season-requires-in-After : goal.has_season-requires-in-After
has_season-requires-in-After c = search rules

pub enum_known-self-in-Before-1 : goal.enum_known-self-in-Before-1
enum_known-self-in-Before-1 c = c.in-Before.in-Before-own.keys3

pub has_season-requires-in-Before : goal.has_season-requires-in-Before
has_season-requires-in-Before c = search rules

pub enum_known-self-in-Between-1 : goal.enum_known-self-in-Between-1
enum_known-self-in-Between-1 c = c.in-Between.in-Between-own.keys4

pub has_season-requires-in-Between : goal.has_season-requires-in-Between
has_season-requires-in-Between c = search rules

pub returns-then-has_season : goal.returns-then-has_season
returns-then-has_season c =
    simp (c.in-Between.is, ← c.has_season-in-Between.ensures, c.if-has_season.true)

pub has_season-requires-in-Between-2 : goal.has_season-requires-in-Between-2
has_season-requires-in-Between-2 c = search rules

pub returns-in-At : goal.returns-in-At
returns-in-At c = search rules

pub returns-in-After : goal.returns-in-After
returns-in-After c = search rules

pub returns-in-Before : goal.returns-in-Before
returns-in-Before c = search rules

pub returns-else-has_season : goal.returns-else-has_season
returns-else-has_season c =
    simp (c.in-Between.is, ← c.has_season-in-Between.ensures, c.if-has_season.false, ← c.has_season-in-Between-2.ensures)
