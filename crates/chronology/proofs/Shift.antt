-- Elements that move up by one to make room for another, or down by one over one that goes: of any sort. Assumes nothing.
use mathlib.Core.Path.{◌≡◌, sym, ap, ◌∙◌}
use mathlib.Core.List.{List, ◌∷◌, ◌++◌, append_assoc}
use Prim.Native.Nat.{ℕ, suc, ◌+◌, ◌-◌, ◌≤◌, ◌<◌}
use native.Mathlib.Omega.{arith}
use lib.ListN.{length, take, drop, set, length-append}
use lib.Seq.{take-take, set_split, length-take-le, drop-append_seam}
use Rattle.std.specs.List.{copy_within}
use Rattle.std.proofs.lemmas.List.{take-append-le}
use Rattle.chronology.specs.Store.{inserted, removed}

module _ {A : Type 0} (l : List A) (n at : ℕ) where
  -- those from a place on have moved up, and the new one stands there
  pub risen : {b : List A} {v w : A} → at ≤ n → n < length l → b ≡ copy_within l at n (at + 1) → v ≡ w → set b at v ≡ inserted l n at w
  unfolding inserted
  risen {b} {v} {w} h g e q =
      let t = take (at + 1) l in
      let m = take (n - at) (drop at l) in
      let r = m ++ drop (suc n) l in
      let k : length t ≡ suc at = let z = length-take-le (at + 1) l (omega arith) in omega arith in
      let f : at + 1 + (n - at) ≡ suc n = omega arith in
      let s : b ≡ t ++ r = e ∙ append_assoc t m (drop (at + 1 + (n - at)) l) ∙ ap (λ (j : ℕ). t ++ (m ++ drop j l)) f in
      let below : take at b ≡ take at l = ap (take at) s ∙ take-append-le at t r (omega arith) ∙ take-take at (at + 1) l (omega arith) in
      let above : drop (suc at) b ≡ r = ap (drop (suc at)) s ∙ ap (λ (j : ℕ). drop j (t ++ r)) (sym k) ∙ drop-append_seam t r in
      set_split b at v (omega (arith, ap length s, length-append t r))
      ∙ ap (λ (x : List A). x ++ v ∷ drop (suc at) b) below
      ∙ ap {B = List A} (λ (x : List A). take at l ++ v ∷ x) above
      ∙ ap {B = List A} (λ (x : A). take at l ++ x ∷ r) q

  -- those behind a place have moved down by one
  pub fallen : {b : List A} → at < n → b ≡ copy_within l (at + 1) n at → b ≡ removed l n at
  unfolding removed
  fallen {b} h e =
      let p : at + 1 ≡ suc at = omega arith in
      let f : at + (n - suc at) ≡ n - 1 = omega arith in
      e ∙ append_assoc (take at l) (take (n - (at + 1)) (drop (at + 1) l)) (drop (at + (n - (at + 1))) l) ∙ ap (λ (j : ℕ). take at l ++ (take (n - j) (drop j l) ++ drop (at + (n - j)) l)) p
      ∙ ap (λ (j : ℕ). take at l ++ (take (n - suc at) (drop (suc at) l) ++ drop j l)) f
