-- An end that goes with a flag: six fields do not look at one whose flag is clear. Assumes nothing.
use mathlib.Core.Path.{◌≡◌, refl, ap}
use mathlib.Core.Bool.{Bool, true, false}
use Rattle.std.specs.Prelude.{Option, Result, None, is_some}
use Rattle.std.specs.Bool.{then_some}
use Rattle.chars.specs.Pick.{pick}
use Rattle.dates.specs.declared.Date.{Date}
use Rattle.dates.specs.declared.DateValue.TheVariants.{At, After}
use Rattle.refusals.specs.declared.Refusal.{Refusal}
use Rattle.chunks.specs.Lent.{Lent, Three, lent_of}
use Rattle.reading_laws.specs.Fields.{three_fields}
use Rattle.reader.specs.declared.ThreeFields.{ThreeFields}
use Rattle.reader.specs.Fields.{three_of}
use Rattle.sixfields.specs.Six.{end_year_of, unmarked, on_three, between, on_end_year, with_end, six_fields}
use Rattle.sixfields.specs.Ends.{end_of}

-- a start, an end year list and an end, by what is read of them
said : Result Date Refusal → Lent → Result Date Refusal → Result Date Refusal
said x y z = on_three x λ a. on_end_year (end_year_of y) (unmarked (After a)) (between a z)

same-said : {x x' : Result Date Refusal} {y y' : Lent} {z z' : Result Date Refusal} → x ≡ x' → y ≡ y' → z ≡ z' → said x y z ≡ said x' y' z'
same-said p q t = rw (p, q, t) refl

module _ (e : ThreeFields) (s s' e' : Three) (p : three_fields s ≡ three_fields s') (q : lent_of e.year ≡ e'.year) (t : three_fields (three_of e) ≡ three_fields e') where
  by-flag : (h : Bool) → six_fields s (is_some (then_some h e)) (end_of (then_some h e)) ≡ six_fields s' h e'
  unfolding six_fields with_end pick said
  by-flag true = same-said p q t
  by-flag false = ap (λ (x : Result Date Refusal). on_three x λ a. unmarked (At a)) p

  pub same-six : (h : Bool) {r : Option ThreeFields} → r ≡ then_some h e → six_fields s (is_some r) (end_of r) ≡ six_fields s' h e'
  same-six h f = rw f (by-flag h)

-- and where it is clear, no end need be there
pub six-alone : (s s' e' : Three) → three_fields s ≡ three_fields s' → six_fields s false (end_of None) ≡ six_fields s' false e'
unfolding six_fields with_end pick
six-alone s s' e' p = ap (λ (x : Result Date Refusal). on_three x λ a. unmarked (At a)) p
