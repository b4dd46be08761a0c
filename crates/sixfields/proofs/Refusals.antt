-- What six fields are refused for: what three fields are refused for, of the start or else of the end.
-- Assumes nothing.
use mathlib.Core.Path.{◌≡◌, refl, sym, ◌∙◌}
use mathlib.Core.Bool.{Bool, true, false}
use mathlib.Core.Logic.{◌⊎◌, inl, inr}
use Prim.Native.Nat.{ℕ}
use native.Mathlib.Omega.{arith}
use Rattle.chars.specs.Pick.{pick}
use Rattle.refusals.specs.declared.Refusal.{Refusal}
use Rattle.std.specs.Prelude.{Result, Ok, Err}
use Rattle.chunks.specs.Check.{or_else}
use Rattle.dates.specs.declared.Datetime.{Datetime}
use Rattle.dates.specs.declared.DateValue.TheVariants.{After}
use Rattle.dates.specs.declared.Date.{Date}
use Rattle.reading_laws.specs.Field.{on_clean}
use Rattle.chunks.specs.Lent.{Three, check_of}
use Rattle.reading_laws.specs.Fields.{fields_checked, three_fields}
use Rattle.sixfields.specs.Six.{blank, judged, end_year_of, single, unmarked, on_three, between, on_end_year, with_end, six_fields}
use Rattle.sixfields.specs.Refusals.{OfEnd}

-- what is accepted is not refused
not-both : {d : Date} {e : Refusal} → Ok d ≡ Err e → ⊥
not-both h = let z : ◌≡◌ {A = ℕ} 0 1 = cc in omega arith

-- what has a text is not blank, nor is what has a fault
filled-not : ◌≡◌ {A = Result Bool Refusal} (Ok true) (Ok false) → ⊥
filled-not h = let z : ◌≡◌ {A = ℕ} 0 1 = cc in omega arith

faulty-not : {f : Refusal} → ◌≡◌ {A = Result Bool Refusal} (Err f) (Ok false) → ⊥
faulty-not h = let z : ◌≡◌ {A = ℕ} 0 1 = cc in omega arith

-- a refused range has a refused end
between-refused : (a : Datetime) (r : Result Date Refusal) {e : Refusal} → between a r ≡ Err e → r ≡ Err e
unfolding between on_three unmarked
between-refused a (Ok d) h = absurd (not-both h)
between-refused a (Err f) h = h

-- a fault of the year list is what three fields are refused for
faulty-refused : (t : Three) {f : Refusal} → check_of t.year ≡ Err f → three_fields t ≡ Err f
unfolding three_fields fields_checked or_else on_clean
faulty-refused t c = rw c

-- an end
module _ (t : Three) {e : Refusal} where
  judged-refused : (a : Datetime) (k : Result (Unit {0}) Refusal) (w : Bool) → check_of t.year ≡ k → on_end_year (judged k w) (unmarked (After a)) (between a (three_fields t)) ≡ Err e
      → (judged k w ≡ (Ok false) → ⊥) × (three_fields t ≡ Err e)
  unfolding judged on_end_year unmarked pick
  judged-refused a (Ok tt) true c h = absurd (not-both h)
  judged-refused a (Ok tt) false c h = (filled-not, between-refused a _ h)
  judged-refused a (Err f) w c h = (faulty-not, faulty-refused t c ∙ h)

  refused-judged : (a : Datetime) (k : Result (Unit {0}) Refusal) (w : Bool) → check_of t.year ≡ k → (judged k w ≡ (Ok false) → ⊥) → three_fields t ≡ Err e
      → on_end_year (judged k w) (unmarked (After a)) (between a (three_fields t)) ≡ Err e
  unfolding judged on_end_year between on_three pick
  refused-judged a (Ok tt) true c n h = absurd (n refl)
  refused-judged a (Ok tt) false c n h = rw h
  refused-judged a (Err f) w c n h = sym (faulty-refused t c) ∙ h

  end_refused : (a : Datetime) (has : Bool) → with_end a has t ≡ Err e → (has ≡ true) × (end_year_of t.year ≡ (Ok false) → ⊥) × (three_fields t ≡ Err e)
  unfolding with_end end_year_of unmarked pick
  end_refused a true h =
      let j = judged-refused a (check_of t.year) (blank t.year) refl h in
      (refl, j.0, j.1)
  end_refused a false h = absurd (not-both h)

-- three fields that are refused, or what goes on behind them
either : (r : Result Date Refusal) (go : Datetime → Result Date Refusal) {B : Type 0} {e : Refusal} → ((d : Date) → r ≡ Ok d → go (single d.value) ≡ Err e → B) → on_three r go ≡ Err e → (r ≡ Err e) ⊎ B
unfolding on_three
either (Ok d) go g h = inr (g d refl h)
either (Err f) go g h = inl h

-- Six fields.
module _ (start : Three) (has : Bool) (end : Three) {e : Refusal} where
  -- what the start is refused for comes first
  pub start_first : three_fields start ≡ Err e → six_fields start has end ≡ Err e
  unfolding six_fields on_three
  start_first h = rw h

  -- behind a start that was read, and with an end year list that is not blank, comes what the end is refused for
  pub end-second : OfEnd start has end e → six_fields start has end ≡ Err e
  unfolding six_fields on_three with_end end_year_of pick
  end-second w =
      rw (w.start_read, w.there) (refused-judged end _ (check_of end.year) (blank end.year) refl w.not_blank w.end_refused)

  -- and no refusal is new: each is one of these two
  pub none-new : six_fields start has end ≡ Err e → (three_fields start ≡ Err e) ⊎ OfEnd start has end e
  unfolding six_fields
  none-new h =
      either (three_fields start) _
      (λ d r k.
      let q = end_refused end (single d.value) has k in
      record { date = d; start_read = r; there = q.0; not_blank = q.1; end_refused = q.2 })
      h
