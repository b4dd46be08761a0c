-- The definition of lines: they hold no line feed, and with their line feeds and the rest they are the stream. Assumes nothing.
use mathlib.Core.Path.{◌≡◌, sym, ap, ◌∙◌}
use mathlib.Core.List.{List, [], ◌∷◌, ◌++◌, append-nil, append_assoc}
use Prim.Native.Nat.{ℕ}
use native.Mathlib.Omega.{arith}
use borrow.Author.Tests.{eqb-true, eqb-false}
use lib.Dec.{eqb}
use Rattle.chars.specs.Pick.{pick}
use Rattle.chars.proofs.Cases.{of_test}
use Rattle.lines.specs.Lines.{lines_from, rest_from, line_length, NoFeed, FeedFree, AllFree, with_feeds}

free-then : (k : List ℕ) (x : ℕ) → FeedFree k → (x ≡ 10 → ⊥) → FeedFree (k ++ (x ∷ []))
free-then [] x h n = (n, tt)
free-then (y ∷ k) x h n = (h.0, free-then k x h.1 n)

-- no line holds a line feed,
pub lines-free : (k s : List ℕ) → FeedFree k → AllFree (lines_from k s)
unfolding lines_from pick
lines-free k [] h = tt
lines-free k (x ∷ s) h =
    of_test (eqb x 10)
    (λ q. rw q (h, lines-free [] s tt))
    (λ q. rw q (lines-free (k ++ (x ∷ [])) s (free-then k x h (eqb-false x 10 q))))

-- nor does the rest,
pub rest-free : (k s : List ℕ) → FeedFree k → FeedFree (rest_from k s)
unfolding rest_from pick
rest-free k [] h = h
rest-free k (x ∷ s) h =
    of_test (eqb x 10)
    (λ q. rw q (rest-free [] s tt))
    (λ q. rw q (rest-free (k ++ (x ∷ [])) s (free-then k x h (eqb-false x 10 q))))

-- and the lines, each with its line feed, and the rest are the stream
pub lines-joined : (k s : List ℕ) → with_feeds (lines_from k s) (rest_from k s) ≡ k ++ s
unfolding lines_from rest_from pick
lines-joined k [] = sym (append-nil k)
lines-joined k (x ∷ s) =
    of_test (eqb x 10)
    (λ q. rw (q, eqb-true x 10 q) (ap (λ (l : List ℕ). k ++ (10 ∷ l)) (lines-joined [] s)))
    (λ q. rw q (lines-joined (k ++ (x ∷ [])) s ∙ append_assoc k (x ∷ []) s))

-- a length up to the next line feed that is the whole length says that there is none
pub no-feed-free : (s : List ℕ) → NoFeed s → FeedFree s
unfolding line_length pick
no-feed-free [] h = tt
no-feed-free (x ∷ s) h =
    of_test (eqb x 10)
    (λ q. absurd (let e = rw q at h in omega arith))
    (λ q. let e = rw q at h in (eqb-false x 10 q, no-feed-free s (omega arith)))
