use native.Mathlib.Omega.{arith}
use Rattle.dates.specs.Time.{utc_seconds}
use Rattle.dates.proofs.Clock.{utc-fits, utc, utc-small}
use mathlib.Core.Path.{◌∙◌}
use borrow.Author.Rules.{rules}
use Rattle.dates.proofs.Time.to_utc_seconds.Goals as goal

pub ahead_of-ahead-requires : goal.ahead_of-ahead-requires
ahead_of-ahead-requires c = search rules

pub seconds-requires : goal.seconds-requires
seconds-requires c = search rules

pub overflow_cast-result : goal.overflow_cast-result
overflow_cast-result c = omega arith

pub overflow_sub-result : goal.overflow_sub-result
overflow_sub-result c = let a = c.ahead_of-ahead in utc-fits c.seconds.result c.seconds.ensures.1 a.result (record { sfits = a.type_inv }) a.ensures.1

pub returns : goal.returns
unfolding utc_seconds
returns c =
    let a = c.ahead_of-ahead in
    let s = c.seconds in (
      utc s.result s.ensures.1 a.result (record { sfits = a.type_inv }) a.ensures.1 ∙ simp (s.ensures.0, a.ensures.0),
      utc-small s.result s.ensures.1 a.result (record { sfits = a.type_inv }) a.ensures.1,
    )
