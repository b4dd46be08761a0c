-- Days as the machine has them: the tests that the functions make of two of them. Assumes nothing.
use mathlib.Core.Path.{◌≡◌, sym, ap, ◌∙◌}
use mathlib.Core.Bool.{Bool, true, false}
use mathlib.Core.List.{List, [], ◌∷◌}
use Prim.Native.Nat.{ℕ, suc, ◌+◌, ◌<◌}
use native.Mathlib.Numerals.{add-one}
use native.Mathlib.Omega.{arith}
use lib.Dec.{ltb}
use lib.IntN.{ℤ, pos, negsuc}
use lib.ListN.{set}
use lib.Seq.{sets}
use lib.Signed.{lt_z, le_z}
use mir.Syntax.{w32, w64}
use mir.Val.{SFits, of_z, to_z}
use mir.ValLaws.{to_z-of_z, to_z_pos}
use Rattle.days.specs.declared.Period.{Period}
use Rattle.days.specs.Covered.{period}
use Rattle.chronology.specs.declared.Entry.{Entry}
use Rattle.chronology.specs.Entries.{entry, entry_of, sooner, precedes, in_span, good_period, good_days, listed}
use Rattle.chronology.specs.Asked.{touches, begins_after, stops}

-- a day as the machine has it
abbrev pub kept : ℤ → ℤ
kept z = to_z w32 (of_z w32 z)

-- whether it is numbered
module _ (z : ℤ) (f : SFits w32 z) where
  pub span-low : le_z (negsuc 3652058) (kept z) ≡ true → le_z (kept z) (pos 3652424) ≡ in_span z
  unfolding in_span
  span-low t = let u : le_z (negsuc 3652058) z ≡ true = rw (to_z-of_z w32 z f) at t in rw (to_z-of_z w32 z f, u)

  pub span-early : le_z (negsuc 3652058) (kept z) ≡ false → le_z (negsuc 3652058) (kept z) ≡ in_span z
  unfolding in_span
  span-early t = let u : le_z (negsuc 3652058) z ≡ false = rw (to_z-of_z w32 z f) at t in t ∙ rw u

-- whether a period is good
module _ (p : Period) (f : SFits w32 p.first) (l : SFits w32 p.last) where
  pub period-first : in_span (kept p.first) ≡ false → false ≡ good_period p
  unfolding good_period
  period-first t = let a : in_span p.first ≡ false = sym (ap in_span (to_z-of_z w32 p.first f)) ∙ t in rw a

  pub period-last : in_span (kept p.first) ≡ true → in_span (kept p.last) ≡ false → false ≡ good_period p
  unfolding good_period
  period-last t u =
      let a : in_span p.first ≡ true = sym (ap in_span (to_z-of_z w32 p.first f)) ∙ t in
      let b : in_span p.last ≡ false = sym (ap in_span (to_z-of_z w32 p.last l)) ∙ u in
      rw (a, b)

  pub period-both : in_span (kept p.first) ≡ true → in_span (kept p.last) ≡ true → le_z (kept p.first) (kept p.last) ≡ good_period p
  unfolding good_period
  period-both t u =
      let a : in_span p.first ≡ true = sym (ap in_span (to_z-of_z w32 p.first f)) ∙ t in
      let b : in_span p.last ≡ true = sym (ap in_span (to_z-of_z w32 p.last l)) ∙ u in
      rw (a, b, to_z-of_z w32 p.first f, to_z-of_z w32 p.last l)

-- what the machine has of an entry's days
pub record Fit (e : Entry) : Type 0 where
  pub of_first : SFits w32 e.first
  pub of_last : SFits w32 e.last

-- which of two entries precedes
pub precedes-is : (a b : Entry) → Fit a → Fit b → {r q : Bool} → q ≡ sooner (kept a.last) (kept b.last) (ltb a.id b.id)
    → r ≡ sooner (kept a.first) (kept b.first) q → r ≡ precedes a b
unfolding precedes
precedes-is a b f g h k =
    k ∙ rw (h, to_z-of_z w32 a.first f.of_first, to_z-of_z w32 b.first g.of_first, to_z-of_z w32 a.last f.of_last, to_z-of_z w32 b.last g.of_last)

-- whether an entry has a good period
pub days_are : (e : Entry) → Fit e → {r : Bool} → r ≡ good_period (period (kept e.first) (kept e.last)) → r ≡ good_days e
unfolding good_days
days_are e f q = q ∙ rw (to_z-of_z w32 e.first f.of_first, to_z-of_z w32 e.last f.of_last)

-- whether an entry touches a period
module _ (p : Period) (e : Entry) (l : SFits w32 p.last) (g : SFits w32 e.first) where
  begun : {t : Bool} → le_z (kept e.first) (kept p.last) ≡ t → le_z e.first p.last ≡ t
  begun t = rw (to_z-of_z w32 e.first g, to_z-of_z w32 p.last l) at t

  pub touch-more : SFits w32 p.first → SFits w32 e.last → le_z (kept e.first) (kept p.last) ≡ true
      → le_z (kept p.first) (kept e.last) ≡ touches p e
  unfolding touches
  touch-more f h t = let a = begun t in rw (a, to_z-of_z w32 p.first f, to_z-of_z w32 e.last h)

  pub touch-not : le_z (kept e.first) (kept p.last) ≡ false → le_z (kept e.first) (kept p.last) ≡ touches p e
  unfolding touches
  touch-not t = let a = begun t in t ∙ rw a

-- whether a walk stops at it
pub stop-touch : (p : Period) (e : Entry) {b : Bool} → b ≡ touches p e → b ≡ true → b ≡ stops p e
unfolding stops
stop-touch p e q t = let a = sym q ∙ t in t ∙ rw a

pub stop-after : (p : Period) (e : Entry) → SFits w32 p.last → SFits w32 e.first → {b : Bool} → b ≡ touches p e → b ≡ false
    → lt_z (kept p.last) (kept e.first) ≡ stops p e
unfolding stops begins_after
stop-after p e l g q t = let a = sym q ∙ t in rw (a, to_z-of_z w32 p.last l, to_z-of_z w32 e.first g)

-- a day as a wider number has it
pub wider : (z : ℤ) → SFits w32 z → SFits w64 (kept z)
wider z f = rw (to_z-of_z w32 z f) (record { sfits = omega arith })

wide-day : (z : ℤ) → SFits w32 z → to_z w64 (of_z w64 (kept z)) ≡ z
wide-day z f = to_z-of_z w64 (kept z) (wider z f) ∙ to_z-of_z w32 z f

-- an entry's three numbers, as they are stored
pub three-numbers : (out : List ℤ) (at : ℕ) (e : Entry) → Fit e → e.id < 4294967296
    → set (set (set out at (to_z w64 (of_z w64 (kept e.first)))) (at + 1) (to_z w64 (of_z w64 (kept e.last)))) (at + 2) (to_z w64 e.id) ≡ sets out at (listed (e ∷ []))
unfolding listed
three-numbers out at e f h =
    let k : suc (suc at) ≡ at + 2 = omega arith in
    rw (wide-day e.first f.of_first, wide-day e.last f.of_last, to_z_pos w64 e.id (omega arith))
    (ap (λ (j : ℕ). set (set (set out at e.first) j e.last) (at + 2) (pos e.id)) (add-one at)
    ∙ ap (λ (j : ℕ). set (set (set out at e.first) (suc at) e.last) j (pos e.id)) (sym k))

-- the entry of a period, as it is made
pub entry-is : (p : Period) (d : ℕ) → SFits w32 p.first → SFits w32 p.last → entry (kept p.first) (kept p.last) d ≡ entry_of p d
entry-is p d f l = rw (to_z-of_z w32 p.first f, to_z-of_z w32 p.last l)
