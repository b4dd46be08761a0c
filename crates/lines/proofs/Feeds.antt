-- The place of the next line feed. Assumes nothing.
use mathlib.Core.Path.{◌≡◌, refl}
use mathlib.Core.Bool.{true}
use mathlib.Core.List.{List, [], ◌∷◌}
use Prim.Native.Nat.{ℕ, zero, suc, ◌≤◌, ◌<◌}
use native.Mathlib.Omega.{arith}
use lib.Dec.{eqb}
use lib.ListN.{length}
use Rattle.chars.specs.Pick.{pick}
use Rattle.chars.proofs.Cases.{of_test}
use Rattle.lines.specs.Lines.{line_length}
use Rattle.std.specs.Prelude.{Option, Some, None, unwrap_or, slice_index}
use Rattle.memchr.specs.Find.{IsFirstByte, is_byte}

-- no more than there is
pub at_most : (s : List ℕ) → line_length s ≤ length s
unfolding line_length pick
at_most [] = omega arith
at_most (x ∷ s) = of_test (eqb x 10) (λ q. rw q (omega arith)) (λ q. rw q (let h = at_most s in omega arith))

-- by a search for the first line feed: there is none
none-feed : (s : List ℕ) → ((k : ℕ) → k < length s → is_byte 10 (slice_index s k) ≡ true → ⊥) → length s ≡ line_length s
unfolding line_length pick
none-feed [] h = refl
none-feed (b ∷ s) h =
    of_test (eqb b 10) (λ q. absurd (h 0 (omega arith) q)) (λ q. rw q (let e = none-feed s (λ k l. h (suc k) (omega arith)) in omega arith))

-- or it stands at a place, and none before it
some-feed : (s : List ℕ) (n : ℕ) → n < length s → ((k : ℕ) → k < n → is_byte 10 (slice_index s k) ≡ true → ⊥) → is_byte 10 (slice_index s n) ≡ true → n ≡ line_length s
unfolding line_length pick
some-feed [] n l h e = absurd (omega arith)
some-feed (b ∷ s) zero l h e = rw e refl
some-feed (b ∷ s) (suc n) l h e =
    of_test (eqb b 10) (λ q. absurd (h 0 (omega arith) q)) (λ q. rw q (let f = some-feed s n (omega arith) (λ k m. h (suc k) (omega arith)) e in omega arith))

-- so the search gives the length of the line
pub first-feed : (s : List ℕ) (r : Option ℕ) → IsFirstByte (is_byte 10) s r → unwrap_or r (length s) ≡ line_length s
first-feed s None h = none-feed s (λ k l. h k (omega arith) l)
first-feed s (Some n) h = some-feed s n h.0.high (λ k l. h.0.before k (omega arith) l) h.1
