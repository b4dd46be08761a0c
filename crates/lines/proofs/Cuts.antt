-- Lines of a stream that is cut anywhere. Assumes nothing.
use mathlib.Core.Path.{◌≡◌, refl, sym, ap, ◌∙◌}
use mathlib.Core.List.{List, [], ◌∷◌, ◌++◌, append-nil, append_assoc}
use Prim.Native.Nat.{ℕ, suc, ◌+◌, ◌<◌}
use native.Mathlib.Omega.{arith}
use lib.Dec.{eqb}
use lib.ListN.{length, take, drop, take-append-drop}
use lib.Seq.{take-add}
use Rattle.chars.specs.Pick.{pick}
use Rattle.chars.proofs.Cases.{of_test}
use Rattle.lines.specs.Lines.{lines_from, rest_from, answers_to, line_length, NoFeed}

-- the lines of both parts, where the second goes on with the rest of the first
pub lines_cut : (k a b : List ℕ) → lines_from k (a ++ b) ≡ lines_from k a ++ lines_from (rest_from k a) b
unfolding lines_from rest_from pick
lines_cut k [] b = refl
lines_cut k (x ∷ a) b =
    of_test (eqb x 10)
    (λ q. rw q (ap (λ (l : List (List ℕ)). k ∷ l) (lines_cut [] a b)))
    (λ q. rw q (lines_cut (k ++ (x ∷ [])) a b))

pub rest-cut : (k a b : List ℕ) → rest_from k (a ++ b) ≡ rest_from (rest_from k a) b
unfolding rest_from pick
rest-cut k [] b = refl
rest-cut k (x ∷ a) b = of_test (eqb x 10) (λ q. rw q (rest-cut [] a b)) (λ q. rw q (rest-cut (k ++ (x ∷ [])) a b))

-- the answers to both
pub answers-both : (answer : List ℕ → List ℕ) (a b : List (List ℕ)) → answers_to answer (a ++ b) ≡ answers_to answer a ++ answers_to answer b
unfolding answers_to
answers-both answer [] b = refl
answers-both answer (l ∷ a) b =
    ap (λ (t : List ℕ). answer l ++ t) (answers-both answer a b)
    ∙ sym (append_assoc (answer l) (answers_to answer a) (answers_to answer b))

-- without a line feed there is no complete line, and all is left
pub no_lines : (k s : List ℕ) → NoFeed s → lines_from k s ≡ []
unfolding lines_from line_length pick
no_lines k [] h = refl
no_lines k (x ∷ s) h =
    of_test (eqb x 10)
    (λ q. absurd (let e = rw q at h in omega arith))
    (λ q. let e = rw q at h in rw q (no_lines (k ++ (x ∷ [])) s (omega arith)))

pub all_rest : (k s : List ℕ) → NoFeed s → rest_from k s ≡ k ++ s
unfolding rest_from line_length pick
all_rest k [] h = sym (append-nil k)
all_rest k (x ∷ s) h =
    of_test (eqb x 10)
    (λ q. absurd (let e = rw q at h in omega arith))
    (λ q. let e = rw q at h in rw q (all_rest (k ++ (x ∷ [])) s (omega arith) ∙ append_assoc k (x ∷ []) s))

-- up to the first line feed there is one line, and nothing is left
pub one_line : (k s : List ℕ) → line_length s < length s → lines_from k (take (suc (line_length s)) s) ≡ (k ++ take (line_length s) s) ∷ []
unfolding lines_from line_length pick
one_line k [] h = absurd (omega arith)
one_line k (x ∷ s) h =
    of_test (eqb x 10)
    (λ q. rw (q, append-nil))
    (λ q. let e = rw q at h in rw q (one_line (k ++ (x ∷ [])) s (omega arith) ∙ ap (λ (l : List ℕ). l ∷ []) (append_assoc k (x ∷ []) (take (line_length s) s))))

pub no-rest : (k s : List ℕ) → line_length s < length s → rest_from k (take (suc (line_length s)) s) ≡ []
unfolding rest_from line_length pick
no-rest k [] h = absurd (omega arith)
no-rest k (x ∷ s) h =
    of_test (eqb x 10)
    (λ q. rw q)
    (λ q. let e = rw q at h in rw q (no-rest (k ++ (x ∷ [])) s (omega arith)))

-- the next line behind a place, e is the place of its line feed
module _ (k b : List ℕ) (at : ℕ) (h : line_length (drop at b) < length (drop at b)) where
  cut-there : take (at + suc (line_length (drop at b))) b ≡ take at b ++ take (suc (line_length (drop at b))) (drop at b)
  cut-there = take-add at (suc (line_length (drop at b))) b

  pub lines_next : lines_from k (take (at + suc (line_length (drop at b))) b) ≡ lines_from k (take at b) ++ ((rest_from k (take at b) ++ take (line_length (drop at b)) (drop at b)) ∷ [])
  lines_next =
      ap (lines_from k) cut-there
      ∙ lines_cut k (take at b) (take (suc (line_length (drop at b))) (drop at b))
      ∙ ap (λ (l : List (List ℕ)). lines_from k (take at b) ++ l) (one_line (rest_from k (take at b)) (drop at b) h)

  pub rest-next : rest_from k (take (at + suc (line_length (drop at b))) b) ≡ []
  rest-next =
      ap (rest_from k) cut-there
      ∙ rest-cut k (take at b) (take (suc (line_length (drop at b))) (drop at b))
      ∙ no-rest (rest_from k (take at b)) (drop at b) h

-- no line feed behind a place
module _ (k b : List ℕ) (at : ℕ) (h : NoFeed (drop at b)) where
  pub lines_end : lines_from k b ≡ lines_from k (take at b)
  lines_end =
      ap (lines_from k) (sym (take-append-drop at b))
      ∙ lines_cut k (take at b) (drop at b)
      ∙ ap (λ (l : List (List ℕ)). lines_from k (take at b) ++ l) (no_lines (rest_from k (take at b)) (drop at b) h)
      ∙ append-nil (lines_from k (take at b))

  pub rest_end : rest_from k b ≡ rest_from k (take at b) ++ drop at b
  rest_end =
      ap (rest_from k) (sym (take-append-drop at b))
      ∙ rest-cut k (take at b) (drop at b)
      ∙ all_rest (rest_from k (take at b)) (drop at b) h
