use Rattle.findings.proofs.Runs.{both, nothing, ran-as}
use Rattle.findings.specs.Words.{place_words}
use Rattle.chars.specs.Pick.{pick}
use Rattle.findings.proofs.put_place.Goals as goal

pub returns-then-has_place : goal.returns-then-has_place
unfolding place_words pick
returns-then-has_place c =
    ran-as (both c.put_placed-k.ensures c.put_placed.ensures) (simp (← c.has_place.ensures, c.if-has_place.true))

pub returns : goal.returns
unfolding place_words pick
returns c =
    ran-as (nothing c.args.out.now c.args.at) (simp (← c.has_place.ensures, c.if-has_place.false))
