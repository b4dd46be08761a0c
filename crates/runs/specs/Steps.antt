-- A file that is read in steps, and the report on it. Which steps is left open: `next` is any function of whether the file ends behind
-- the block, of the block, and of what is kept between steps.
use Rattle.std.specs.Prelude.{ℕ, zero, suc, ◌≤◌, ◌<◌, ◌≡◌, Bool, true, false, List, [], ◌++◌, length, drop}

-- what a step comes to
pub data Outcome (State : Type 0) : Type 0 where
  -- it waits for more of the file
  wait : Outcome State
  -- it took so many bytes, said this of them, and keeps this
  took : ℕ → List ℕ → State → Outcome State
  -- the report ends with this
  over : List ℕ → Outcome State

-- a way to take steps
abbrev pub Way : Type 0 → Type 0
Way State = Bool → List ℕ → State → Outcome State

-- what is said from an outcome on, if this is said behind one that took bytes
unfoldable pub told : {State : Type 0} → (ℕ → List ℕ → State → List ℕ) → Outcome State → List ℕ
told go wait = []
told go (took n text kept) = go n text kept
told go (over text) = text

-- the report by at most so many steps
unfoldable pub report_by : {State : Type 0} → Way State → ℕ → State → List ℕ → List ℕ
report_by next zero st s = []
report_by next (suc more) st s = told (λ n text kept. text ++ report_by next more kept (drop n s)) (next true s st)

-- the report on a file that is given whole: each step takes a byte at least, so that there are no more steps than bytes, and one that ends it
unfoldable pub report_on : {State : Type 0} → Way State → State → List ℕ → List ℕ
report_on next st s = report_by next (suc (length s)) st s

-- steps that do not depend on how the file comes in blocks
pub record Steady {State : Type 0} (next : Way State) : Type 0 where
  -- what is answered before the file's end stays the same whatever follows, and wherever the file ends
  pub stable : (b rest : List ℕ) (st : State) (last : Bool) → (next false b st ≡ wait → ⊥) → next last (b ++ rest) st ≡ next false b st
  -- a step takes a byte at least, and no more than there are
  pub moves : (last : Bool) (b : List ℕ) (st : State) {n : ℕ} {text : List ℕ} {kept : State} → next last b st ≡ took n text kept → (0 < n) × (n ≤ length b)
  -- none waits at the file's end
  pub decides : (b : List ℕ) (st : State) → next true b st ≡ wait → ⊥
