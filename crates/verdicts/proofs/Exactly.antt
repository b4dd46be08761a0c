-- Each verdict, exactly: when it is given. Assumes nothing.
use mathlib.Core.Path.{◌≡◌, refl, sym, subst, ◌∙◌}
use mathlib.Core.Bool.{Bool, true, false, ◌&&◌, ◌||◌}
use mathlib.Core.List.{List, [], ◌∷◌}
use mathlib.Core.Logic.{◌↔◌}
use Prim.Native.Nat.{ℕ}
use native.Mathlib.Omega.{arith}
use lib.ListN.{length}
use Rattle.chars.specs.Pick.{pick}
use Rattle.chars.proofs.Cases.{by-test, and-true}
use Rattle.dates.specs.declared.Date.{Date}
use Rattle.refusals.specs.declared.Refusal.{Refusal}
use Rattle.std.specs.Prelude.{Result, Ok, Err}
use Rattle.reading_laws.specs.Field.{parsed, parsed_strict}
use Rattle.verdicts.specs.declared.Verdict.{Verdict}
use Rattle.verdicts.specs.declared.Verdict.TheVariants.{NoDate, Full, NotStrict, ShortYear, Unread, Refused}
use Rattle.verdicts.specs.Dates.{cell_table, by_readers, date_verdict}
use Rattle.verdicts.specs.Plain.{is_strict}
use Rattle.verdicts.specs.Fields.{Cells, some_given, is_unread, six_read, either_few, both_plain, verdict_of, read_verdict, given_verdict, six_verdict}
use Rattle.verdicts.proofs.Both.{Both, both, full-of}
use Rattle.verdicts.proofs.Both.Both.{agreed, differs, alone, neither}
use Rattle.verdicts.proofs.Said.{asked}
use Rattle.verdicts.proofs.Empty.{empty-strict, empty-ported}

-- ---- a date in one cell

-- what the readers answered, by the verdict
full-if : {x y : Result Date Refusal} → Both x y Full → (d : Date) × (x ≡ Ok d) × (y ≡ Ok d)
full-if (agreed {d}) = (d, refl, refl)

strict-if : {x y : Result Date Refusal} {d : Date} → Both x y (NotStrict d) → (y ≡ Ok d) × (x ≡ Ok d → ⊥)
strict-if (differs n) = (refl, λ e. n cc)
strict-if alone = (refl, λ e. absurd (let z : ◌≡◌ {A = ℕ} 0 1 = cc in omega arith))

refused-if : {x y : Result Date Refusal} {e : Refusal} → Both x y (Refused e) → ((f : Refusal) × (x ≡ Err f)) × (y ≡ Err e)
refused-if (neither {f}) = ((f, refl), refl)

none-if : {x y : Result Date Refusal} {v : Verdict} → Both x y v → v ≡ NoDate → ⊥
none-if agreed e = let z : ◌≡◌ {A = ℕ} 0 1 = cc in omega arith
none-if (differs n) e = let z : ◌≡◌ {A = ℕ} 0 1 = cc in omega arith
none-if alone e = let z : ◌≡◌ {A = ℕ} 0 1 = cc in omega arith
none-if neither e = let z : ◌≡◌ {A = ℕ} 0 1 = cc in omega arith

-- and the verdict, by what they answered
strict_of : {x y : Result Date Refusal} {v : Verdict} (d : Date) → Both x y v → y ≡ Ok d → (x ≡ Ok d → ⊥) → v ≡ NotStrict d
strict_of d agreed e n = absurd (n e)
strict_of d (differs k) e n = cc
strict_of d alone e n = cc
strict_of d neither e n = absurd (let z : ◌≡◌ {A = ℕ} 0 1 = cc in omega arith)

refused-of : (x : Result Date Refusal) {y : Result Date Refusal} (e : Refusal) → y ≡ Err e → by_readers x y ≡ Refused e
unfolding by_readers
refused-of x e q = rw q

-- the readers' answers and the verdict of a cell that is not empty
answered : (s : List ℕ) → (length s ≡ 0 → ⊥) → {v : Verdict} → date_verdict s ≡ v → Both (parsed_strict s (cell_table s)) (parsed s (cell_table s)) v
answered s n e = subst (Both (parsed_strict s (cell_table s)) (parsed s (cell_table s))) (sym (asked s n) ∙ e) (both s)

empty : date_verdict [] ≡ NoDate
unfolding date_verdict pick
empty = refl

-- no date is in the empty cell alone
pub no-date : (s : List ℕ) → (date_verdict s ≡ NoDate) ↔ (s ≡ [])
no-date [] = (λ e. refl, λ e. empty)
no-date (b ∷ t) = (
  λ e. absurd (none-if (answered (b ∷ t) (λ z. absurd (omega arith)) e) refl),
  λ e. absurd (let z : ◌≡◌ {A = ℕ} 0 1 = cc in omega arith),
)

-- a cell is full exactly if both readers give one and the same Date
pub full : (s : List ℕ) → (date_verdict s ≡ Full) ↔ ((d : Date) × (parsed_strict s (cell_table s) ≡ Ok d) × (parsed s (cell_table s) ≡ Ok d))
full [] = (
  λ e. absurd (let f = empty in let z : ◌≡◌ {A = ℕ} 0 1 = cc in omega arith),
  λ p. absurd (empty-strict p.1),
)
full (b ∷ t) =
    let n : length (b ∷ t) ≡ 0 → ⊥ = λ z. absurd (omega arith) in
    (λ e. full-if (answered (b ∷ t) n e), λ p. asked (b ∷ t) n ∙ full-of p.1 p.2)

-- it is not strict and says a Date exactly if the ported reader gives that Date and the strict one does not
pub not-strict : (s : List ℕ) (d : Date) → (date_verdict s ≡ NotStrict d) ↔ ((parsed s (cell_table s) ≡ Ok d) × (parsed_strict s (cell_table s) ≡ Ok d → ⊥))
not-strict [] d = (
  λ e. absurd (let f = empty in let z : ◌≡◌ {A = ℕ} 0 1 = cc in omega arith),
  λ p. absurd (empty-ported p.0),
)
not-strict (b ∷ t) d =
    let n : length (b ∷ t) ≡ 0 → ⊥ = λ z. absurd (omega arith) in
    (λ e. strict-if (answered (b ∷ t) n e), λ p. strict_of d (answered (b ∷ t) n refl) p.0 p.1)

-- and it is refused exactly if it is not empty and both refuse it; the refusal is the ported reader's
pub refused : (s : List ℕ) (e : Refusal) → (date_verdict s ≡ Refused e) ↔ ((s ≡ [] → ⊥) × ((f : Refusal) × (parsed_strict s (cell_table s) ≡ Err f)) × (parsed s (cell_table s) ≡ Err e))
refused [] e = (
  λ h. absurd (let f = empty in let z : ◌≡◌ {A = ℕ} 0 1 = cc in omega arith),
  λ p. absurd (p.0 refl),
)
refused (b ∷ t) e =
    let n : length (b ∷ t) ≡ 0 → ⊥ = λ z. absurd (omega arith) in (
      λ h.
          let p = refused-if (answered (b ∷ t) n h) in
          (λ q. absurd (let z : ◌≡◌ {A = ℕ} 0 1 = cc in omega arith), p.0, p.1),
      λ p. asked (b ∷ t) n ∙ refused-of _ e p.2,
    )

-- ---- a date in six cells

-- what a verdict on six cells says: one has a text, none with a text is left unread, whether a year is short, and what was read
pub record SixSaid (start end : Cells) (short : Bool) (r : Result Date Refusal) : Type 0 where
  -- one of the cells has a text
  pub some : some_given start || some_given end ≡ true
  -- the reader looks at each that has one
  pub all : is_unread start.month start.day end ≡ false
  -- the years' digits
  pub digits : either_few start.year end.year ≡ short
  -- the reader's answer
  pub read : six_read start end ≡ r

-- the verdict by what is asked: whether a cell has a text, whether one is left unread, whether a year is short, whether the cells are
-- plain, and what was read
abbrev told : Bool → Bool → Bool → Bool → Result Date Refusal → Verdict
told g u f p r = pick g (pick u Unread (verdict_of f p r)) NoDate

-- what was asked, by the verdict
data Told (g u f p : Bool) (r : Result Date Refusal) : Verdict → Type 0 where
  empty_told : g ≡ false → Told g u f p r NoDate
  left_told : g ≡ true → u ≡ true → Told g u f p r Unread
  short_told : {d : Date} → g ≡ true → u ≡ false → f ≡ true → r ≡ Ok d → Told g u f p r (ShortYear d)
  full_told : (d : Date) → g ≡ true → u ≡ false → f ≡ false → r ≡ Ok d → p && is_strict d ≡ true → Told g u f p r Full
  other_told : {d : Date} → g ≡ true → u ≡ false → f ≡ false → r ≡ Ok d → p && is_strict d ≡ false → Told g u f p r (NotStrict d)
  refused_told : {e : Refusal} → g ≡ true → u ≡ false → r ≡ Err e → Told g u f p r (Refused e)

view : (g u f p : Bool) (r : Result Date Refusal) → Told g u f p r (told g u f p r)
unfolding pick verdict_of
view false u f p r = empty_told refl
view true true f p r = left_told refl refl
view true false true p (Ok d) = short_told refl refl refl refl
view true false false p (Ok d) =
    by-test (Told true false false p (Ok d)) (p && is_strict d) (full_told d refl refl refl refl) (other_told refl refl refl refl)
view true false f p (Err e) = refused_told refl refl refl

module _ (start end : Cells) where
  abbrev some : Bool
  some = some_given start || some_given end

  abbrev left : Bool
  left = is_unread start.month start.day end

  abbrev few : Bool
  few = either_few start.year end.year

  abbrev plain : Bool
  plain = both_plain start end

  abbrev ToldOf : Verdict → Type 0
  ToldOf v = Told some left few plain (six_read start end) v

  is-told : six_verdict start end ≡ told some left few plain (six_read start end)
  unfolding six_verdict given_verdict read_verdict
  is-told = refl

  by : {v : Verdict} → six_verdict start end ≡ v → ToldOf v
  by e = subst ToldOf (sym is-told ∙ e) (view some left few plain (six_read start end))

  -- six cells hold no date exactly if none has a text
  pub six-no-date : (six_verdict start end ≡ NoDate) ↔ (some_given start || some_given end ≡ false)
  unfolding pick
  six-no-date = (λ e. of (by e), λ e. is-told ∙ rw e)
    where
      of : ToldOf NoDate → some ≡ false
      of (empty_told g) = g

  -- something is unread
  pub unread : (six_verdict start end ≡ Unread) ↔ ((some_given start || some_given end ≡ true) × (is_unread start.month start.day end ≡ true))
  unfolding pick
  unread = (λ e. of (by e), λ p. is-told ∙ rw (p.0, p.1))
    where
      of : ToldOf Unread → (some ≡ true) × (left ≡ true)
      of (left_told g u) = (g, u)

  -- they are full exactly if all is read, no year is short, a Date was read, all cells are plain, and the Date's written text is strict
  pub six-full : (six_verdict start end ≡ Full) ↔ ((d : Date) × SixSaid start end false (Ok d) × (both_plain start end ≡ true) × (is_strict d ≡ true))
  unfolding pick verdict_of
  six-full = (λ e. of (by e), λ p. is-told ∙ rw (p.1.some, p.1.all, p.1.digits, p.1.read, p.2, p.3))
    where
      of : ToldOf Full → (d : Date) × SixSaid start end false (Ok d) × (plain ≡ true) × (is_strict d ≡ true)
      of (full_told d g u f r k) =
          let b = and-true plain (is_strict d) k in
          (d, record { some = g; all = u; digits = f; read = r }, b.0, b.1)

  -- they are not strict exactly if all is read, no year is short, a Date was read, and a cell is not plain or the text is not strict
  pub six-not-strict : (d : Date) → (six_verdict start end ≡ NotStrict d) ↔ (SixSaid start end false (Ok d) × (both_plain start end && is_strict d ≡ false))
  unfolding pick verdict_of
  six-not-strict d = (λ e. of (by e), λ p. is-told ∙ rw (p.0.some, p.0.all, p.0.digits, p.0.read, p.1))
    where
      of : ToldOf (NotStrict d) → SixSaid start end false (Ok d) × (plain && is_strict d ≡ false)
      of (other_told g u f r k) = (record { some = g; all = u; digits = f; read = r }, k)

  -- a year is short
  pub short-year : (d : Date) → (six_verdict start end ≡ ShortYear d) ↔ SixSaid start end true (Ok d)
  unfolding pick verdict_of
  short-year d = (λ e. of (by e), λ p. is-told ∙ rw (p.some, p.all, p.digits, p.read))
    where
      of : ToldOf (ShortYear d) → SixSaid start end true (Ok d)
      of (short_told g u f r) = record { some = g; all = u; digits = f; read = r }

  -- all is read, and refused
  pub six_refused : (e : Refusal) → (six_verdict start end ≡ Refused e) ↔ SixSaid start end (either_few start.year end.year) (Err e)
  unfolding pick verdict_of
  six_refused e = (λ h. of (by h), λ p. is-told ∙ rw (p.some, p.all, p.read))
    where
      of : ToldOf (Refused e) → SixSaid start end few (Err e)
      of (refused_told g u r) = record { some = g; all = u; digits = refl; read = r }
