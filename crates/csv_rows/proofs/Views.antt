-- The reading of a line, cell by cell, as a derivation; and what each cell says of the bytes behind it. Assumes nothing.
use mathlib.Core.Path.{◌≡◌, refl, ◌∙◌}
use mathlib.Core.Bool.{Bool, true, false}
use mathlib.Core.List.{List, [], ◌∷◌}
use Prim.Native.Nat.{ℕ, zero, suc, ◌+◌, ◌-◌, ◌≤◌, ◌<◌}
use native.Mathlib.Omega.{arith}
use lib.Dec.{eqb, ltb}
use lib.ListN.{length, drop, length-drop}
use Rattle.chars.specs.Pick.{pick}
use Rattle.chars.proofs.Cases.{of_test}
use Rattle.csv_rows.specs.declared.Fault.{Fault}
use Rattle.csv_rows.specs.declared.Fault.TheVariants.{QuoteInside, TextBehind}
use Rattle.csv_rows.specs.declared.Stop.{Stop}
use Rattle.csv_rows.specs.declared.Stop.TheVariants.{Ends, Lone, Other, Unsure}
use Rattle.csv_rows.specs.declared.CellRead.{CellRead}
use Rattle.csv_rows.specs.declared.CellRead.TheVariants.{Good, Wrong, Unclear}
use Rattle.csv_rows.specs.declared.Ending.TheVariants.{Through, Fails, Open}
use Rattle.csv_rows.specs.Reader.{is_special, is, up_to, inner_len, stop_of, closed, plain_by, quoted_by, cell_of, Line, line_from}
use Rattle.csv_rows.specs.Answers.{place_of}
use Rattle.csv_rows.proofs.Laws.{is-inside}
use Rattle.csv_rows.proofs.Places.{good-within, wrong-within, cell-within, line-more, line-last, line-wrong, line-open}

-- what may stand behind a good cell
closed-good : (st : Stop) (a e n : ℕ) (f : Fault) {a' e' n' : ℕ} → closed st a e n f ≡ Good a' e' n' → (st ≡ Ends) × (n ≡ n')
unfolding closed
closed-good Ends a e n f g = (refl, cc)
closed-good Lone a e n f g = absurd (let z : ◌≡◌ {A = ℕ} 0 1 = cc in omega arith)
closed-good Other a e n f g = absurd (let z : ◌≡◌ {A = ℕ} 0 1 = cc in omega arith)
closed-good Unsure a e n f g = absurd (let z : ◌≡◌ {A = ℕ} 0 1 = cc in omega arith)

module _ (over : Bool) (sep at : ℕ) where
  plain-ends : (t : List ℕ) (m : ℕ) {a e n : ℕ} → plain_by over sep at t m ≡ Good a e n → stop_of over sep (drop (n - at) t) ≡ Ends
  unfolding plain_by
  plain-ends t m {n = n} g = let c = closed-good (stop_of over sep (drop m t)) at (at + m) (at + m) (QuoteInside (at + m)) g in let d : n - at ≡ m = omega (arith, c.1) in rw d c.0

  quoted-ends : (b : ℕ) (t : List ℕ) (m : ℕ) {a e n : ℕ} → quoted_by over sep at t m ≡ Good a e n → stop_of over sep (drop (n - at) (b ∷ t)) ≡ Ends
  unfolding quoted_by pick
  quoted-ends b t m {n = n} g =
      of_test (ltb m (length t))
      (λ q. let c = closed-good (stop_of over sep (drop (suc m) t)) (at + 1) (at + 1 + m) (at + 1 + m + 1) (TextBehind (at + 1 + m + 1)) (rw q at g) in let d : n - at ≡ suc (suc m) = omega (arith, c.1) in rw d c.0)
      (λ q. of_test over (λ o. absurd (let h = rw (q, o) at g in let z : ◌≡◌ {A = ℕ} 0 1 = cc in omega arith)) (λ o. absurd (let h = rw (q, o) at g in let z : ◌≡◌ {A = ℕ} 0 1 = cc in omega arith)))

  -- a good cell ends before a separator, a line end or the end of the file
  pub good-ends : (t : List ℕ) {a e n : ℕ} → cell_of over sep at t ≡ Good a e n → stop_of over sep (drop (n - at) t) ≡ Ends
  unfolding cell_of pick
  good-ends [] g = plain-ends [] 0 g
  good-ends (b ∷ t) g = of_test (eqb b 34) (λ q. quoted-ends b t (inner_len t) (rw q at g)) (λ q. plain-ends (b ∷ t) (up_to (is_special sep) (b ∷ t)) (rw q at g))

-- where the file goes on, something stands there
pub ends_some : (sep : ℕ) (v : List ℕ) → stop_of false sep v ≡ Ends → 0 < length v
unfolding stop_of pick
ends_some sep [] g = absurd (let z : ◌≡◌ {A = ℕ} 0 1 = cc in omega arith)
ends_some sep (b ∷ v) g = omega arith

-- the steps of the reading from a place on
pub data Steps (over : Bool) (sep : ℕ) : ℕ → List ℕ → Line → Type 0 where
  and_more : {at : ℕ} {t : List ℕ} {a e n : ℕ} {l : Line} → cell_of over sep at t ≡ Good a e n → (at ≤ a) × (a ≤ e) × (e ≤ n) × (n ≤ at + length t) → is sep (drop (n - at) t) ≡ true
      → Steps over sep (n + 1) (drop (suc (n - at)) t) l → Steps over sep at t (record { cells = record { start = a; stop = e } ∷ l.cells; ending = l.ending })
  at_last : {at : ℕ} {t : List ℕ} {a e n : ℕ} → cell_of over sep at t ≡ Good a e n → (at ≤ a) × (a ≤ e) × (e ≤ n) × (n ≤ at + length t) → is sep (drop (n - at) t) ≡ false
      → Steps over sep at t (record { cells = record { start = a; stop = e } ∷ []; ending = Through n })
  at_fault : {at : ℕ} {t : List ℕ} {f : Fault} → cell_of over sep at t ≡ Wrong f → (at ≤ place_of f) × (place_of f ≤ at + length t) → Steps over sep at t (record { cells = []; ending = Fails f })
  at_open : {at : ℕ} {t : List ℕ} → cell_of over sep at t ≡ Unclear → Steps over sep at t (record { cells = []; ending = Open at })

by-cell : (over : Bool) (sep at : ℕ) (t : List ℕ) (c : CellRead) → cell_of over sep at t ≡ c
    → ((n : ℕ) (v : List ℕ) → length v < length t → Steps over sep n v (line_from over sep 0 n v)) → Steps over sep at t (line_from over sep 0 at t)
by-cell over sep at t (Good a e n) g again =
    let w = good-within (rw g at (cell-within over sep at t)) in
    of_test (is sep (drop (n - at) t))
    (λ q.
    let i = is-inside sep t (n - at) q in
    let d = length-drop (suc (n - at)) t in
    rw (line-more over sep at t g q) (and_more g w q (again (n + 1) (drop (suc (n - at)) t) (omega arith))))
    (λ q. rw (line-last over sep at t g q) (at_last g w q))
by-cell over sep at t (Wrong f) g again = rw (line-wrong over sep at t g) (at_fault g (wrong-within (rw g at (cell-within over sep at t))))
by-cell over sep at t Unclear g again = rw (line-open over sep at t g) (at_open g)

steps-upto : (over : Bool) (sep m at : ℕ) (t : List ℕ) → length t ≤ m → Steps over sep at t (line_from over sep 0 at t)
steps-upto over sep zero at t h = by-cell over sep at t (cell_of over sep at t) refl (λ n v l. absurd (omega arith))
steps-upto over sep (suc m) at t h = by-cell over sep at t (cell_of over sep at t) refl (λ n v l. steps-upto over sep m n v (omega arith))

-- every line is read in steps
pub steps : (over : Bool) (sep at : ℕ) (t : List ℕ) → Steps over sep at t (line_from over sep 0 at t)
steps over sep at t = steps-upto over sep (length t) at t (omega arith)

-- and the steps say what the line is
pub steps-line : {over : Bool} {sep at : ℕ} {t : List ℕ} {l : Line} → Steps over sep at t l → line_from over sep 0 at t ≡ l
steps-line {over} {sep} {at} {t} (and_more {n = n} g w q r) = line-more over sep at t g q ∙ rw (steps-line r)
steps-line {over} {sep} {at} {t} (at_last g w q) = line-last over sep at t g q
steps-line {over} {sep} {at} {t} (at_fault g w) = line-wrong over sep at t g
steps-line {over} {sep} {at} {t} (at_open g) = line-open over sep at t g
