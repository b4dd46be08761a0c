use Rattle.findings.proofs.Runs.{ran-as}
use borrow.Author.Tests.{ne_eqb}
use Rattle.findings.specs.Words.{kind_words}
use Rattle.chars.specs.Pick.{pick}
use Rattle.findings.proofs.put_kind.Goals as goal

pub returns-in-1 : goal.returns-in-1
unfolding kind_words pick
returns-in-1 c =
    ran-as c.put_piece.ensures (simp c.in-1.is)

pub returns-in-2 : goal.returns-in-2
unfolding kind_words pick
returns-in-2 c =
    ran-as c.put_piece-in-2.ensures (simp c.in-2.is)

pub returns-in-3 : goal.returns-in-3
unfolding kind_words pick
returns-in-3 c =
    ran-as c.put_piece-in-3.ensures (simp c.in-3.is)

pub returns-in-4 : goal.returns-in-4
unfolding kind_words pick
returns-in-4 c =
    ran-as c.put_piece-in-4.ensures (simp c.in-4.is)

pub returns-in-5 : goal.returns-in-5
unfolding kind_words pick
returns-in-5 c =
    ran-as c.put_piece-in-5.ensures (simp c.in-5.is)

pub returns-in-6 : goal.returns-in-6
unfolding kind_words pick
returns-in-6 c =
    ran-as c.put_piece-in-6.ensures (simp c.in-6.is)

pub returns-in-7 : goal.returns-in-7
unfolding kind_words pick
returns-in-7 c =
    ran-as c.put_piece-in-7.ensures (simp c.in-7.is)

pub returns-in-8 : goal.returns-in-8
unfolding kind_words pick
returns-in-8 c =
    ran-as c.put_piece-in-8.ensures (simp c.in-8.is)

pub returns-in-9 : goal.returns-in-9
unfolding kind_words pick
returns-in-9 c =
    ran-as c.put_piece-in-9.ensures (simp c.in-9.is)

pub returns-in-10 : goal.returns-in-10
unfolding kind_words pick
returns-in-10 c =
    ran-as c.put_piece-in-10.ensures (simp c.in-10.is)

pub returns-in-11 : goal.returns-in-11
unfolding kind_words pick
returns-in-11 c =
    ran-as c.put_piece-in-11.ensures (simp c.in-11.is)

pub returns-in-16 : goal.returns-in-16
unfolding kind_words pick
returns-in-16 c =
    ran-as c.put_piece-in-16.ensures (simp c.in-16.is)

pub returns-in_default : goal.returns-in_default
unfolding kind_words pick
returns-in_default c =
    ran-as c.put_piece-in_default.ensures (simp (ne_eqb _ _ c.in_default.in_default-own.rest.1, ne_eqb _ _ c.in_default.in_default-own.rest.0.1, ne_eqb _ _ c.in_default.in_default-own.rest.0.0.1, ne_eqb _ _ c.in_default.in_default-own.rest.0.0.0.1, ne_eqb _ _ c.in_default.in_default-own.rest.0.0.0.0.1, ne_eqb _ _ c.in_default.in_default-own.rest.0.0.0.0.0.1, ne_eqb _ _ c.in_default.in_default-own.rest.0.0.0.0.0.0.1, ne_eqb _ _ c.in_default.in_default-own.rest.0.0.0.0.0.0.0.1, ne_eqb _ _ c.in_default.in_default-own.rest.0.0.0.0.0.0.0.0.1, ne_eqb _ _ c.in_default.in_default-own.rest.0.0.0.0.0.0.0.0.0.1, ne_eqb _ _ c.in_default.in_default-own.rest.0.0.0.0.0.0.0.0.0.0.1, ne_eqb _ _ c.in_default.in_default-own.rest.0.0.0.0.0.0.0.0.0.0.0.1))
