-- A stream that is read in pieces, however it is cut: what a loop of reads, steps and writes comes to.
use Rattle.std.specs.Prelude.{Bool, false, List, [], ◌++◌, ℕ, take, drop}
use Rattle.lines.specs.declared.Taken.{Taken}
use Rattle.lines.specs.Steps.{Stepped}

-- what was read so far, what of it stands in the block, whether the line there is too long already, and what was written
pub data Run (answer : List ℕ → List ℕ) (limit : ℕ) : List ℕ → List ℕ → Bool → List ℕ → Type 0 where
  -- at the start
  start : Run answer limit [] [] false []
  -- some bytes are read, behind those in the block
  read : {s b w : List ℕ} {long : Bool} (new : List ℕ) → Run answer limit s b long w → Run answer limit (s ++ new) (b ++ new) long w
  -- a step over the block: what it put is written, what it took goes
  step : {s b w out out' : List ℕ} {long : Bool} {r : Taken} → Run answer limit s b long w → Stepped answer limit long b out r out'
      → Run answer limit s (drop r.bytes b) r.long (w ++ take r.put out')

-- from one block of a run to another, whatever was read and written before
pub record Onward (answer : List ℕ → List ℕ) (limit : ℕ) (new b : List ℕ) (long : Bool) (b' : List ℕ) (long' : Bool) : Type 0 where
  -- what was written
  pub put : List ℕ
  -- the new bytes were read
  pub run : {s w : List ℕ} → Run answer limit s b long w → Run answer limit (s ++ new) b' long' (w ++ put)
