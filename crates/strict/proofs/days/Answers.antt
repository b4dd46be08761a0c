use Rattle.strict.specs.Grammar.{plain}
use Prim.Native.Nat.{ℕ}
use mathlib.Core.Path.{ap, ◌∙◌, ◌≡◌}
use Rattle.dates.specs.Value.{month, day}
use Rattle.dates.specs.declared.DateValue.TheVariants.{Between}
use Rattle.dates.specs.declared.Datetime.{Datetime}
use Rattle.dates.specs.declared.DateValue.{DateValue}
use Rattle.std.specs.Prelude.{Option, Some}
use Rattle.strict.specs.Matcher.{days}
use Rattle.strict.proofs.days.Goals as goal

within : {a b x y : Datetime} → a ≡ x → b ≡ y → ◌≡◌ {A = Option (DateValue × ℕ)} (Some (Between a b, 10)) (Some (Between x y, 10))
within e f = cc

pub returns : goal.returns
unfolding days
returns c =
    let a = c.args in
    within c.plain-start.ensures (c.plain-end.ensures ∙ ap (λ (l : ℕ). plain a.n (month a.month.0) (day l)) c.last_day.ensures)
