-- A run goes on over its block. Assumes nothing.
use mathlib.Core.Path.{◌≡◌}
use mathlib.Core.Bool.{Bool}
use mathlib.Core.List.{List, [], ◌++◌, append-nil, append_assoc}
use Prim.Native.Nat.{ℕ}
use lib.ListN.{drop}
use Rattle.runs.specs.Steps.{Way}
use Rattle.runs.specs.Steps.Outcome.{took}
use Rattle.runs.specs.Runs.{Onward}
use Rattle.runs.specs.Runs.Run.{step}

module _ {State : Type 0} {next : Way State} where
  -- nothing was done yet
  pub onward-none : (last : Bool) (b : List ℕ) (st : State) → Onward next last b st b st []
  onward-none last b st = record { run = λ {w} r. rw (append-nil w) r }

  -- one step more
  pub onward-step : {last : Bool} {b₀ b put text : List ℕ} {st₀ st kept : State} {n : ℕ} → Onward next last b₀ st₀ b st put → next last b st ≡ took n text kept
      → Onward next last b₀ st₀ (drop n b) kept (put ++ text)
  onward-step {put} {text} o e = record { run = λ {w} r. rw (← append_assoc w put text) (step (o.run r) e) }
