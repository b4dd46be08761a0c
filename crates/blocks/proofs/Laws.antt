-- What is so of a part that was moved down to the front of its block. Assumes nothing.
use mathlib.Core.Path.{◌≡◌, sym, ap, ◌∙◌}
use mathlib.Core.List.{List, ◌++◌}
use Prim.Native.Nat.{ℕ, ◌+◌, ◌-◌, ◌≤◌, ◌<◌}
use native.Mathlib.Omega.{arith}
use borrow.Author.Tests.{le-leb, lt-leb}
use lib.ListN.{length, take, drop, length-drop}
use lib.Seq.{length-take-le, take-add, take_at, drop_at}
use Rattle.std.specs.List.{copy_within}
use Rattle.chars.specs.Pick.{pick}
use Rattle.blocks.specs.Moves.{moved_down}

-- within the block
pub moved_in : (from to : ℕ) (s : List ℕ) → from ≤ to → to ≤ length s → moved_down from to s ≡ take (to - from) (drop from s) ++ drop (to - from) s
unfolding moved_down pick
moved_in from to s h g = rw (le-leb from to h, le-leb to (length s) g)

-- as a copy within it says it
pub moved_down-is : (from to : ℕ) (s : List ℕ) → from ≤ to → to ≤ length s → copy_within s from to 0 ≡ moved_down from to s
moved_down-is from to s h g =
    let e : 0 + (to - from) ≡ to - from = omega arith in
    ap (λ (j : ℕ). take (to - from) (drop from s) ++ drop j s) e ∙ sym (moved_in from to s h g)

-- its front is what was moved
pub moved_front : (from to : ℕ) (s : List ℕ) → from ≤ to → to ≤ length s → take (to - from) (moved_down from to s) ≡ take (to - from) (drop from s)
moved_front from to s h g =
    ap (take (to - from)) (moved_in from to s h g) ∙ take_at (take (to - from) (drop from s)) (drop (to - from) s) (to - from) (length-take-le (to - from) (drop from s) (omega (arith, length-drop from s)))

-- the bytes from a place to another are what lies from the one on of those before the other
pub part-is : (from to : ℕ) (s : List ℕ) → from ≤ to → to ≤ length s → take (to - from) (drop from s) ≡ drop from (take to s)
part-is from to s h g =
    let e : from + (to - from) ≡ to = omega arith in
    sym (ap (drop from) (rw e at (take-add from (to - from) s)) ∙ drop_at (take from s) (take (to - from) (drop from s)) from (length-take-le from s (omega arith)))

-- so what is kept of the first bytes stands at the front
pub moved-kept : (from to : ℕ) (s : List ℕ) → from ≤ to → to ≤ length s → take (to - from) (moved_down from to s) ≡ drop from (take to s)
moved-kept from to s h g = moved_front from to s h g ∙ part-is from to s h g

-- places that are not in the block in this order
pub moved_none : (from to : ℕ) (s : List ℕ) → to < from → moved_down from to s ≡ s
unfolding moved_down pick
moved_none from to s h = rw (lt-leb from to h)

pub moved_out : (from to : ℕ) (s : List ℕ) → from ≤ to → length s < to → moved_down from to s ≡ s
unfolding moved_down pick
moved_out from to s h g = rw (le-leb from to h, lt-leb to (length s) g)
