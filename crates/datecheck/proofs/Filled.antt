-- A part at the end of a buffer that was filled: what stands before it and its front. Assumes nothing.
use mathlib.Core.Path.{◌≡◌, ap, ◌∙◌}
use mathlib.Core.List.{List, ◌++◌}
use Prim.Native.Nat.{ℕ, ◌+◌, ◌-◌, ◌≤◌}
use borrow.Rule.Slice.PartMut.{put_mid, take_put}
use lib.ListN.{length, take, drop}
use lib.Seq.{take-add, take-append-le, drop_at, length-take-le}

pub filled : (buf part : List ℕ) (at n : ℕ) → at ≤ length buf → n ≤ length part → take (at + n) (put_mid at (length buf - at) buf part) ≡ take at buf ++ take n part
filled buf part at n h g =
    take-add at n (put_mid at (length buf - at) buf part)
    ∙ ap (λ (x : List ℕ). x ++ take n (drop at (put_mid at (length buf - at) buf part))) (take_put at (length buf - at) buf part h)
    ∙ ap (λ (x : List ℕ). take at buf ++ take n x) (drop_at (take at buf) _ at (length-take-le at buf h))
    ∙ ap (λ (x : List ℕ). take at buf ++ x) (take-append-le n part _ g)
