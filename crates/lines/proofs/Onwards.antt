-- A run goes on: steps over a block, one behind the other. Assumes nothing.
use mathlib.Core.Path.{◌≡◌, sym, ap, ◌∙◌}
use mathlib.Core.Bool.{Bool, false}
use mathlib.Core.List.{List, [], ◌++◌, append-nil, append_assoc}
use Prim.Native.Nat.{ℕ, ◌+◌, ◌-◌, ◌≤◌}
use native.Mathlib.Omega.{arith}
use lib.ListN.{length, take, drop, length-drop}
use lib.Seq.{take_all, drop-drop}
use Rattle.lines.specs.declared.Taken.{Taken}
use Rattle.lines.specs.Lines.{NoFeed}
use Rattle.lines.specs.Steps.{Stepped}
use Rattle.lines.specs.Runs.{Onward}
use Rattle.lines.specs.Runs.Run.{step}

-- nothing was done yet
pub onward-none : (answer : List ℕ → List ℕ) (limit : ℕ) (b : List ℕ) (long : Bool) → Onward answer limit [] b long b long
onward-none answer limit b long = record { put = []; run = λ {s} {w} r. rw (append-nil s, append-nil w) r }

-- the part of a block that is lent to the next step
part-is : (b : List ℕ) (at : ℕ) → take (length b - at) (drop at b) ≡ drop at b
part-is b at = take_all (length b - at) (drop at b) (omega (arith, length-drop at b))

module _ (b : List ℕ) (at : ℕ) {answer : List ℕ → List ℕ} {limit : ℕ} {l : Bool} {out out' : List ℕ} {r : Taken}
    (s : Stepped answer limit l (take (length b - at) (drop at b)) out r out') where
  left_is : drop r.bytes (take (length b - at) (drop at b)) ≡ drop (at + r.bytes) b
  left_is = ap (drop r.bytes) (part-is b at) ∙ drop-drop r.bytes at b

  pub stays-in : at ≤ length b → at + r.bytes ≤ length b
  stays-in i = let h = s.inside in omega (arith, ap length (part-is b at), length-drop at b)

  -- one more step
  pub onward-step : {new b₀ : List ℕ} {long : Bool} → Onward answer limit new b₀ long (drop at b) l → Onward answer limit new b₀ long (drop (at + r.bytes) b) r.long
  onward-step {new} o =
      record {
        put = o.put ++ take r.put out';
        run = λ {s = x} {w} y.
            rw (← left_is, ← append_assoc w o.put (take r.put out'))
            (step (rw (sym (part-is b at)) at (o.run y)) s);
      }

  -- the last of them did not stop for room
  pub onward-over : r.full ≡ false → NoFeed (drop (at + r.bytes) b) × (length (drop (at + r.bytes) b) ≤ limit)
  onward-over e = rw left_is at (s.over e)
