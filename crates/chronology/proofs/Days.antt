-- What the crate days gives is a good period. Assumes nothing.
use mathlib.Core.Path.{◌≡◌, refl, subst}
use mathlib.Core.Bool.{Bool, true, false}
use lib.Dec.{T}
use lib.IntN.{ℤ, pos, negsuc}
use lib.Signed.{lt_z, le_z, ◌≤ℤ◌, lt_z_yes, lt_z_no, <ℤ-≤ℤ_trans, clash_ℤ}
use Rattle.chars.specs.Pick.{pick}
use Rattle.dates.specs.declared.Datetime.{Datetime}
use Rattle.dates.specs.Value.{has_season}
use Rattle.days.specs.declared.Period.{Period}
use Rattle.refusals.specs.declared.Refusal.{Refusal}
use Rattle.std.specs.Prelude.{Result, Ok, Err}
use Rattle.days.specs.Covered.{is_date, first_day, last_day, period, not_adate, calendar_days, seasoned, covered}
use Rattle.days.proofs.Theorems.{bounds, first-last}
use Rattle.chronology.specs.Entries.{in_span, good_period}

is_true : (b : Bool) → T b → b ≡ true
is_true true t = refl
is_true false t = absurd t

at_most : {a b : ℤ} → a ≤ℤ b → le_z a b ≡ true
at_most {a} {b} h = is_true (le_z a b) h.le

le_trans : (a b c : ℤ) → a ≤ℤ b → b ≤ℤ c → a ≤ℤ c
le_trans a b c h k = go (lt_z c a) refl
  where
    go : (t : Bool) → lt_z c a ≡ t → a ≤ℤ c
    go true q = clash_ℤ (<ℤ-≤ℤ_trans (lt_z_yes (rw q tt)) h) k
    go false q = lt_z_no (rw q tt)

dated : (d : Datetime) → is_date d ≡ true → good_period (period (first_day d) (last_day d)) ≡ true
unfolding good_period in_span
dated d e =
    let b = bounds d e in
    let f = first-last d e in
    let low = le_trans (negsuc 3652058) (first_day d) (last_day d) b.0 f in
    let high = le_trans (first_day d) (last_day d) (pos 3652424) f b.1 in
    rw (at_most b.0, at_most high, at_most low, at_most b.1, at_most f)

-- the period that is answered for a Datetime
good-if : Result Period Refusal → Type 0
good-if (Ok p) = good_period p ≡ true
good-if (Err e) = Unit {0}

answered : (d : Datetime) → good-if (covered d)
unfolding good-if covered seasoned calendar_days not_adate pick
answered d = season (has_season d)
  where
    date : (t : Bool) → is_date d ≡ t → good-if (pick t (Ok (period (first_day d) (last_day d))) not_adate)
    date true q = dated d q
    date false q = tt

    season : (t : Bool) → good-if (pick t seasoned (calendar_days d))
    season true = tt
    season false = date (is_date d) refl

-- each period that a Datetime is answered with is one that may be added
pub covered-good : (d : Datetime) (p : Period) → covered d ≡ Ok p → good_period p ≡ true
unfolding good-if
covered-good d p e = subst good-if e (answered d)
