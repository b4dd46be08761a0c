-- What stands at a place, and the runs of bytes from there on. Assumes nothing.
use mathlib.Core.Path.{◌≡◌, refl, sym, ap, ◌∙◌}
use mathlib.Core.Bool.{Bool, true, false, false≢true, ◌||◌}
use mathlib.Core.List.{List, [], ◌∷◌}
use Prim.Native.Nat.{ℕ, zero, suc, ◌+◌, ◌≤◌, ◌<◌}
use native.Mathlib.Omega.{arith}
use native.Mathlib.Numerals.{add-one}
use lib.Dec.{eqb}
use lib.ListN.{length, get_or, drop, length-drop, drop_of_length-le}
use lib.Seq.{drop-cons, drop-drop, drop-nil}
use Rattle.chars.specs.Pick.{pick}
use Rattle.chars.proofs.Cases.{of_test, by-test}
use Rattle.csv_rows.specs.Reader.{is, equal, up_to, inner_len}
use Rattle.csv_rows.specs.Scans.{SameEnd}

pub front : (s : List ℕ) (i : ℕ) → i < length s → drop i s ≡ get_or s i 0 ∷ drop (i + 1) s
front s i h = rw (add-one, drop-cons s i 0)

pub past : (s : List ℕ) (i : ℕ) → length s ≤ i → drop i s ≡ []
past s i h = drop_of_length-le s {i = i} h

-- what stands at a place stands within
pub is-inside : (c : ℕ) (s : List ℕ) (i : ℕ) → is c (drop i s) ≡ true → i < length s
unfolding is
is-inside c [] i h = absurd (false≢true (rw (drop-nil {A = ℕ} i) at h))
is-inside c (b ∷ s) zero h = omega arith
is-inside c (b ∷ s) (suc i) h = let g = is-inside c s i h in omega arith

module _ (p : ℕ → Bool) (s : List ℕ) (i : ℕ) where
  pub run-go : i < length s → p (get_or s i 0) ≡ false → i + up_to p (drop i s) ≡ i + 1 + up_to p (drop (i + 1) s)
  unfolding up_to pick
  run-go h t = let e : up_to p (drop i s) ≡ suc (up_to p (drop (i + 1) s)) = rw (front s i h, t) in omega arith

  pub run-stop : i < length s → p (get_or s i 0) ≡ true → i + up_to p (drop i s) ≡ i
  unfolding up_to pick
  run-stop h t = let e : up_to p (drop i s) ≡ 0 = rw (front s i h, t) in omega arith

  pub run_past : length s ≤ i → i + up_to p (drop i s) ≡ i
  unfolding up_to
  run_past h = let e : up_to p (drop i s) ≡ 0 = rw (past s i h) in omega arith

-- a run lies within what is left
pub run-within : (p : ℕ → Bool) (t : List ℕ) → up_to p t ≤ length t
unfolding up_to
run-within p [] = omega arith
run-within p (b ∷ t) = let h = run-within p t in by-test (λ (n : ℕ). n ≤ suc (length t)) _ (λ _. omega arith) (λ _. omega arith)

-- what is between quotes, by the first quote of it
pub inner-open : (t : List ℕ) → length t ≤ up_to (equal 34) t → inner_len t ≡ up_to (equal 34) t
unfolding up_to inner_len pick
inner-open [] h = refl
inner-open (b ∷ []) h = of_test (eqb b 34) (λ q. rw q) (λ q. rw q)
inner-open (b ∷ c ∷ s) h =
    of_test (eqb b 34) (λ q. let z : suc (suc (length s)) ≤ 0 = rw q at h in absurd (omega arith))
    (λ q. let z : suc (suc (length s)) ≤ suc (up_to (equal 34) (c ∷ s)) = rw q at h in rw q (ap suc (inner-open (c ∷ s) (omega arith))))

pub inner-shut : (t : List ℕ) → is 34 (drop (suc (up_to (equal 34) t)) t) ≡ false → inner_len t ≡ up_to (equal 34) t
unfolding up_to inner_len pick is
inner-shut [] h = refl
inner-shut (b ∷ []) h = of_test (eqb b 34) (λ q. rw q) (λ q. rw q)
inner-shut (b ∷ c ∷ s) h =
    of_test (eqb b 34) (λ q. let z : eqb c 34 ≡ false = rw q at h in rw (q, z))
    (λ q. let z : is 34 (drop (suc (up_to (equal 34) (c ∷ s))) (c ∷ s)) ≡ false = rw q at h in rw q (ap suc (inner-shut (c ∷ s) z)))

pub inner-two : (t : List ℕ) → is 34 (drop (suc (up_to (equal 34) t)) t) ≡ true → inner_len t ≡ suc (suc (up_to (equal 34) t)) + inner_len (drop (suc (suc (up_to (equal 34) t))) t)
unfolding up_to inner_len pick is
inner-two [] h = absurd (false≢true h)
inner-two (b ∷ []) h = of_test (eqb b 34) (λ q. absurd (false≢true (rw q at h))) (λ q. absurd (false≢true (rw q at h)))
inner-two (b ∷ c ∷ s) h =
    of_test (eqb b 34) (λ q. let z : eqb c 34 ≡ true = rw q at h in rw (q, z) (omega arith))
    (λ q. let z : is 34 (drop (suc (up_to (equal 34) (c ∷ s))) (c ∷ s)) ≡ true = rw q at h in let y = inner-two (c ∷ s) z in rw q (omega arith))

module _ (s : List ℕ) (i e : ℕ) (g : e ≡ i + up_to (equal 34) (drop i s)) where
  next-at : drop (suc (up_to (equal 34) (drop i s))) (drop i s) ≡ drop (e + 1) s
  next-at = let f : i + suc (up_to (equal 34) (drop i s)) ≡ e + 1 = omega arith in drop-drop (suc (up_to (equal 34) (drop i s))) i s ∙ rw f

  pub quote-open : length s ≤ e → e ≡ i + inner_len (drop i s)
  quote-open h = let d = length-drop i s in let z = inner-open (drop i s) (omega arith) in omega arith

  pub quote-shut : is 34 (drop (e + 1) s) ≡ false → e ≡ i + inner_len (drop i s)
  quote-shut h = let z = inner-shut (drop i s) (rw next-at h) in omega arith

  pub quote-two : is 34 (drop (e + 1) s) ≡ true → e + 2 + inner_len (drop (e + 2) s) ≡ i + inner_len (drop i s)
  quote-two h =
      let n = up_to (equal 34) (drop i s) in
      let f : i + suc (suc n) ≡ e + 2 = omega arith in
      let d : drop (suc (suc n)) (drop i s) ≡ drop (e + 2) s = drop-drop (suc (suc n)) i s ∙ rw f in
      let z = rw d at (inner-two (drop i s) (rw next-at h)) in
      omega arith

-- bytes that are passed
module _ (f : List ℕ → ℕ) (s : List ℕ) (at : ℕ) where
  pub same_here : at ≤ length s → SameEnd f s at at
  same_here h = record { same = refl; upward = omega arith; within = h }

  pub same_start : at ≤ length s → SameEnd f s at (at + 0)
  same_start h = let e : at + 0 ≡ at = omega arith in rw e (same_here h)

  pub same_at : (n i : ℕ) → i ≡ n → SameEnd f s at (at + i) → SameEnd f s at (at + n)
  same_at n i e x = rw e at x

  pub same_more : (i j : ℕ) → SameEnd f s at i → SameEnd f s i j → SameEnd f s at j
  same_more i j x y = let p = x.upward in let q = y.upward in record { same = y.same ∙ x.same; upward = omega arith; within = y.within }

-- because none of them is of the kind
module _ (p : ℕ → Bool) (s : List ℕ) (at : ℕ) where
  same-one : (i : ℕ) → i < length s → p (get_or s i 0) ≡ false → SameEnd (up_to p) s at i → SameEnd (up_to p) s at (i + 1)
  same-one i h t e = let u = e.upward in record { same = sym (run-go p s i h t) ∙ e.same; upward = omega arith; within = omega arith }

  pub same-go : (i : ℕ) (any b : Bool) → at + i < length s → b ≡ p (get_or s (at + i) 0) → (any ≡ false → SameEnd (up_to p) s at (at + i)) → any || b ≡ false → SameEnd (up_to p) s at (at + (i + 1))
  same-go i true b h e f z = absurd (false≢true (sym z))
  same-go i false b h e f z = let g : at + i + 1 ≡ at + (i + 1) = omega arith in rw (← g) (same-one (at + i) h (sym e ∙ z) (f refl))
