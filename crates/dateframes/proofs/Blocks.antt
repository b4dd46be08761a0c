-- The front of the buffer is the block of a run: what is left behind steps is moved to it, and what was read stands behind it. Assumes nothing.
use mathlib.Core.Path.{◌≡◌, sym, ap, ◌∙◌, subst}
use mathlib.Core.Bool.{Bool}
use mathlib.Core.List.{List, [], ◌++◌, append-nil}
use Prim.Native.Nat.{ℕ, ◌+◌, ◌-◌, ◌≤◌}
use native.Mathlib.Omega.{arith}
use lib.ListN.{length, take, drop, length-drop}
use lib.Seq.{take-add, length-take-le}
use Rattle.blocks.specs.Moves.{moved_down}
use Rattle.blocks.proofs.Laws.{moved-kept}
use Rattle.lines.specs.Lines.{NoFeed}
use Rattle.lines.specs.Runs.{Run, Onward}
use Rattle.lines.specs.Runs.Run.{read}

module _ (buf buf' : List ℕ) (n from : ℕ) (h : n ≤ length buf) (i : from ≤ length (take n buf)) (m : buf' ≡ moved_down from n buf) where
  pub in-front : from ≤ n
  in-front = omega (arith, length-take-le n buf h)

  moved-is : take (n - from) buf' ≡ drop from (take n buf)
  moved-is = ap (take (n - from)) m ∙ moved-kept from n buf in-front h

  -- what is left is the block
  pub left-onward : {answer : List ℕ → List ℕ} {limit : ℕ} {long l : Bool}
      → Onward answer limit [] (take n buf) long (drop from (take n buf)) l → Onward answer limit [] (take n buf) long (take (n - from) buf') l
  left-onward {answer} {limit} {long} {l} o = subst (λ (b : List ℕ). Onward answer limit [] (take n buf) long b l) (sym moved-is) o

  pub left-free : {limit : ℕ} → NoFeed (drop from (take n buf)) × (length (drop from (take n buf)) ≤ limit) → NoFeed (take (n - from) buf') × (n - from ≤ limit)
  left-free f =
      (rw moved-is f.0, let g = f.1 in omega (arith, length-drop from (take n buf), length-take-le n buf h))

-- what was read comes behind the block
pub read-onward : (buf : List ℕ) (have count : ℕ) {answer : List ℕ → List ℕ} {limit : ℕ} {b : List ℕ} {long l : Bool}
    → Onward answer limit [] (take (have + count) buf) long b l → Onward answer limit (take count (drop have buf)) (take have buf) long b l
read-onward buf have count {answer} {limit} {long} o =
    let new = take count (drop have buf) in
    record {
      put = o.put;
      run = λ {s} {w} r.
          rw (append-nil (s ++ new)) at (o.run (subst (λ (x : List ℕ). Run answer limit (s ++ new) x long w) (sym (take-add have count buf)) (read new r)));
    }
