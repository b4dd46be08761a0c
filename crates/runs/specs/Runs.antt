-- A file that is read in pieces, however it is cut: what a loop of reads, steps and writes comes to.
use Rattle.std.specs.Prelude.{◌≡◌, Bool, true, false, List, [], ◌++◌, ℕ, drop}
use Rattle.runs.specs.Steps.{Way}
use Rattle.runs.specs.Steps.Outcome.{took, over}

-- whether the file's end was seen, what was read so far, what of it stands in the block, what is kept, and what was written
pub data Run {State : Type 0} (next : Way State) (first : State) : Bool → List ℕ → List ℕ → State → List ℕ → Type 0 where
  -- at the start
  start : Run next first false [] [] first []
  -- some bytes are read, behind those in the block
  read : {s b w : List ℕ} {st : State} (new : List ℕ) → Run next first false s b st w → Run next first false (s ++ new) (b ++ new) st w
  -- the file's end is seen
  end : {s b w : List ℕ} {st : State} → Run next first false s b st w → Run next first true s b st w
  -- a step took bytes of the block: what it said is written, what it took goes
  step : {last : Bool} {s b w text : List ℕ} {st kept : State} {n : ℕ} → Run next first last s b st w → next last b st ≡ took n text kept
      → Run next first last s (drop n b) kept (w ++ text)

-- a run that is over: what was read, and what was written
pub data Ended {State : Type 0} (next : Way State) (first : State) : Bool → List ℕ → List ℕ → Type 0 where
  -- with what its last step says
  ended : {last : Bool} {s b w text : List ℕ} {st : State} → Run next first last s b st w → next last b st ≡ over text → Ended next first last s (w ++ text)

-- from one block of a run to another, whatever was read and written before
pub record Onward {State : Type 0} (next : Way State) (last : Bool) (b : List ℕ) (st : State) (b' : List ℕ) (st' : State) (put : List ℕ) : Type 0 where
  -- the run goes on, and this is written
  pub run : {first : State} {s w : List ℕ} → Run next first last s b st w → Run next first last s b' st' (w ++ put)
