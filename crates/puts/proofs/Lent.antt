-- What a writer did with the part of a buffer behind a place, which was lent to it. Assumes nothing.
use mathlib.Core.Path.{◌≡◌, sym, ap, ◌∙◌}
use mathlib.Core.Bool.{Bool, true, false, false≢true}
use mathlib.Core.List.{List, ◌++◌}
use Prim.Native.Nat.{ℕ, ◌+◌, ◌-◌, ◌≤◌, ◌<◌}
use native.Mathlib.Nat.{zero-add}
use native.Mathlib.Omega.{arith}
use borrow.Author.Tests.{leb-true, leb-false}
use borrow.Rule.Slice.PartMut.{put_mid}
use lib.Dec.{leb}
use lib.ListN.{length, take, drop, length-drop, length-take, take-append-drop}
use lib.Seq.{sets-eq}
use Rattle.chars.specs.Pick.{pick}
use Rattle.chars.proofs.Cases.{of_test}
use Rattle.refusals.specs.declared.Refusal.{Refusal}
use Rattle.std.specs.Prelude.{Result, Ok, Err}
use Rattle.puts.specs.Answers.{measured, decided, answer, left, afterwards, Put}
use Rattle.puts.proofs.Puts.{lent}

abbrev is_done : Result ℕ Refusal → Bool
is_done (Ok n) = true
is_done (Err e) = false

abbrev count_of : Result ℕ Refusal → ℕ
count_of (Ok n) = n
count_of (Err e) = 0

module _ (t l : List ℕ) {l' : List ℕ} {w : Result ℕ Refusal} (ew : w ≡ answer false t (length l)) (el : l' ≡ afterwards false t l) where
  was-done : {n : ℕ} → w ≡ Ok n → (length t ≤ length l) × Put t l 0 l' n
  unfolding answer decided measured afterwards left pick
  was-done {n} e =
      of_test (leb (length t) (length l))
      (λ q.
      let h = leb-true (length t) (length l) q in
      let c : n ≡ length t = ap count_of (sym e ∙ rw q at ew) in
      let o : l' ≡ t ++ drop (length t) l = rw q at el in
      let s = sets-eq t l 0 (omega arith) ∙ ap (λ (j : ℕ). t ++ drop j l) (zero-add (length t)) in
      (h, record { behind = c ∙ sym (zero-add (length t)); bytes = o ∙ sym s }))
      (λ q. absurd (false≢true (sym (ap is_done (sym e ∙ rw q at ew)))))

  was-refused : {e : Refusal} → w ≡ Err e → (length l < length t) × (l' ≡ l)
  unfolding answer decided measured afterwards left pick
  was-refused {e} g =
      of_test (leb (length t) (length l))
      (λ q. absurd (false≢true (ap is_done (sym g ∙ rw q at ew))))
      (λ q. (leb-false (length t) (length l) q, rw q at el))

-- the part of the buffer behind a place
abbrev part_of : List ℕ → ℕ → List ℕ
part_of out p = take (length out - p) (drop p out)

part_length : (out : List ℕ) (p : ℕ) → length (part_of out p) ≡ length out - p
part_length out p = simp (length-take, length-drop) (omega arith)

-- w is what the writer of t answered, and l' the part when it came back
module _ (t out : List ℕ) (p : ℕ) (h : p ≤ length out) {l' : List ℕ} {w : Result ℕ Refusal}
    (ew : w ≡ answer false t (length (part_of out p))) (el : l' ≡ afterwards false t (part_of out p)) where
  -- it has written: there was room, and the text was put at the place
  module _ {n : ℕ} (e : w ≡ Ok n) where
    pub fits : p + length t ≤ length out
    fits = let g = (was-done t (part_of out p) ew el e).0 in omega (arith, part_length out p)

    pub in-range : p + n ≤ length out
    in-range = let g = (was-done t (part_of out p) ew el e).1.behind in omega (arith, fits)

    pub put-done : Put t out p (put_mid p (length out - p) out l') (p + n)
    put-done = lent t out l' p n fits (was-done t (part_of out p) ew el e).1

  -- it refuses: there was none, and all is as it was
  pub put-none : {e : Refusal} → w ≡ Err e → (length out < p + length t) × (put_mid p (length out - p) out l' ≡ out)
  put-none {e} g =
      let r = was-refused t (part_of out p) ew el g in (
        let k = r.0 in omega (arith, part_length out p),
        rw (r.1, take-append-drop (length out - p) (drop p out)) (take-append-drop p out),
      )
