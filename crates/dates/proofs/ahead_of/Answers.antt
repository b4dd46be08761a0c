use Rattle.dates.specs.Time.{ahead_of}
use native.Mathlib.Omega.{arith}
use mathlib.Core.Path.{sym, ap, ◌∙◌}
use mir.Syntax.{w64}
use mir.ValLaws.{to_z-of_z}
use borrow.Author.Rules.{rules}
use Rattle.dates.proofs.ahead_of.Goals as goal

pub returns-in-None : goal.returns-in-None
unfolding ahead_of
returns-in-None c = (ap ahead_of (sym c.in-None.is), omega arith)

pub returns-in-Some : goal.returns-in-Some
unfolding ahead_of
returns-in-Some c = rw (to_z-of_z w64 c.to_seconds.result (record { sfits = c.to_seconds.type_inv })) (c.to_seconds.ensures.0 ∙ ap ahead_of (sym c.in-Some.is), c.to_seconds.ensures.1)
