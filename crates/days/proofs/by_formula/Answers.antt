use mathlib.Core.Path.{◌≡◌, sym, ap, ◌∙◌}
use Prim.Native.Nat.{◌+◌}
use native.Mathlib.Omega.{arith}
use mir.Syntax.{w32}
use mir.ValLaws.{to_z_pos}
use mathlib.Core.Bool.{Bool}
use lib.IntN.{pos}
use lib.ListN.{take}
use Rattle.dates.specs.Calendar.{leap_year, month_lengths}
use Rattle.days.specs.Days.{total, days_before}
use Rattle.days.specs.Counts.{days_to}
use Rattle.days.proofs.Engines.{formula-is}
use Rattle.days.proofs.by_formula.Goals as goal

pub returns : goal.returns
unfolding days_to days_before
returns c =
    let leap : c.is_leap-leap.result ≡ leap_year (pos c.args.year) = rw (to_z_pos w32 c.args.year (omega arith)) at c.is_leap-leap.ensures in
    let months = c.before_month.ensures.0 ∙ ap (λ (b : Bool). total (take c.args.month (month_lengths b))) leap in
    let whole : c.before_year.result + c.before_month.result ≡ days_to c.args.year c.args.month = omega (arith, c.before_year.ensures.0, months) in
    (whole ∙ sym (formula-is c.args.year c.args.month (omega arith)), omega arith)
