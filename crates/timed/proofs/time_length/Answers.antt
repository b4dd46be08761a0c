use native.Mathlib.Omega.{arith}
use Rattle.timed.proofs.Pieces.{some-length}
use Rattle.timed.specs.Texts.{time_text}
use borrow.Author.Rules.{rules}
use Rattle.timed.proofs.time_length.Goals as goal

pub returns-in-None : goal.returns-in-None
unfolding time_text
returns-in-None c = (simp c.in-None.is, omega arith)

pub returns-in-Some : goal.returns-in-Some
returns-in-Some c =
    (some-length c.in-Some.t c.in-Some.is c.zone_length.ensures.0, omega arith)
