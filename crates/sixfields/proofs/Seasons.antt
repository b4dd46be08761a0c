-- Six fields never give a season. Assumes nothing.
use mathlib.Core.Path.{◌≡◌, refl, subst}
use mathlib.Core.Bool.{Bool, false}
use Rattle.chars.proofs.Cases.{by-test}
use Rattle.dates.specs.declared.Datetime.{Datetime}
use Rattle.dates.specs.declared.Date.{Date}
use Rattle.dates.specs.Value.{has_season, any_season}
use Rattle.refusals.specs.declared.Refusal.{Refusal}
use Rattle.std.specs.Prelude.{Result, Ok, Err, true}
use Rattle.chunks.specs.Lent.{Three}
use Rattle.reading_laws.proofs.Stored.{FieldsIn, fields, no_fields, three-in}
use Rattle.sixfields.specs.Six.{end_year_of, single, unmarked, on_three, between, on_end_year, with_end, six_fields}

-- what is read has no season
abbrev None : Result Date Refusal → Type 0
None (Ok d) = any_season d.value ≡ false
None (Err e) = Unit {0}

on-three : {r : Result Date Refusal} → FieldsIn r → (go : Datetime → Result Date Refusal) → ((a : Datetime) → has_season a ≡ false → None (go a)) → None (on_three r go)
unfolding on_three single
on-three (fields h k l) go f = f _ refl
on-three no_fields go f = tt

on-end : (y : Result Bool Refusal) (opened closed : Result Date Refusal) → None opened → None closed → None (on_end_year y opened closed)
unfolding on_end_year
on-end (Ok false) opened closed h k = h
on-end (Ok true) opened closed h k = k
on-end (Err e) opened closed h k = tt

with-end : (has : Bool) (end : Three) (a : Datetime) → has_season a ≡ false → None (with_end a has end)
unfolding with_end between unmarked
with-end has end a e =
    by-test None has
    (λ _. on-end (end_year_of end.year) _ _ e (on-three (three-in end) _ λ b g. rw (e, g)))
    (λ _. e)

-- of every six lists
pub six-none : (start : Three) (has : Bool) (end : Three) {r : Date} → six_fields start has end ≡ Ok r → any_season r.value ≡ false
unfolding six_fields
six-none start has end e = subst None e (on-three (three-in start) _ λ a g. with-end has end a g)
