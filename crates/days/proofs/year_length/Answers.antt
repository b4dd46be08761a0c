use mathlib.Core.Path.{◌≡◌, sym, ap, ◌∙◌}
use mathlib.Core.Bool.{Bool, true, false}
use Rattle.dates.specs.Calendar.{leap_year}
use mir.Syntax.{w32}
use mir.ValLaws.{to_z-of_z}
use Rattle.days.proofs.Years.{one-if, year_is}
use Prim.Native.Nat.{◌+◌}
use Rattle.days.proofs.year_length.Goals as goal

pub returns-then-is_leap : goal.returns-then-is_leap
returns-then-is_leap c =
    let said : leap_year c.args.year ≡ true = sym (rw (to_z-of_z w32 c.args.year c.ranges.year) at c.is_leap.ensures) ∙ c.if-is_leap.true in
    sym (year_is c.args.year ∙ ap (λ (b : Bool). 365 + one-if b) said)

pub returns-else-is_leap : goal.returns-else-is_leap
returns-else-is_leap c =
    let said : leap_year c.args.year ≡ false = sym (rw (to_z-of_z w32 c.args.year c.ranges.year) at c.is_leap.ensures) ∙ c.if-is_leap.false in
    sym (year_is c.args.year ∙ ap (λ (b : Bool). 365 + one-if b) said)
