use Rattle.sixfields.specs.Six.{single}
use borrow.Author.Rules.{rules}
use Rattle.sixfields.proofs.single.Goals as goal

pub returns-in-At : goal.returns-in-At
unfolding single
returns-in-At c =
    simp c.in-At.is

pub returns-in-After : goal.returns-in-After
unfolding single
returns-in-After c =
    simp c.in-After.is

pub returns-in-Before : goal.returns-in-Before
unfolding single
returns-in-Before c =
    simp c.in-Before.is

pub returns-in-Between : goal.returns-in-Between
unfolding single
returns-in-Between c =
    simp c.in-Between.is
