-- What the steps over a block come to, by why they ended; what a read leaves in it; and what a turn of steps and a read comes to.
use Rattle.std.specs.Prelude.{◌≡◌, Bool, true, false, List, ◌++◌, ℕ, ◌≤◌, ◌<◌, length, take}
use Rattle.runs.specs.Runs.{Run, Onward}
use Rattle.runs.specs.Steps.Outcome.{wait, over}
-- what is kept between steps holds a separator and columns, whose types are of two other crates
use Rattle.csv_rows.specs.declared.Separator.{Separator}
use Rattle.headers.specs.declared.Columns.{Columns}
use Rattle.sheets.specs.declared.State.{State}
use Rattle.sheets.specs.Steps.{next}
use Rattle.datecheck.specs.declared.Stop.{Stop}
use Rattle.datecheck.specs.declared.Stop.TheVariants.{Waits, Full, Over}

-- a run goes on from a block to what is left of it, and this is put: the next step waits, or there is no room for it, or it ends the report
pub data Went (last : Bool) (b : List ℕ) (st : State) : Stop → List ℕ → State → List ℕ → Type 0 where
  waits : {b' put : List ℕ} {st' : State} → Onward next last b st b' st' put → next last b' st' ≡ wait → Went last b st Waits b' st' put
  full : {b' put : List ℕ} {st' : State} → Onward next last b st b' st' put → Went last b st Full b' st' put
  ends : {b' put text : List ℕ} {st' : State} → Onward next last b st b' st' put → next last b' st' ≡ over text → Went last b st Over b' st' (put ++ text)

-- what a read leaves behind what was kept, and whether the file ends there: some bytes, or at the end none
pub data Refilled (b : List ℕ) : Bool → List ℕ → Type 0 where
  bytes : (new : List ℕ) → 0 < length new → Refilled b false (b ++ new)
  none : Refilled b true b

-- from one block to another, with what was read behind what was kept
pub record Turned (last : Bool) (b : List ℕ) (st : State) (out : List ℕ) (last' : Bool) (b' : List ℕ) (st' : State) : Type 0 where
  -- these bytes were read
  pub new : List ℕ
  -- so many of the output were written
  pub put : ℕ
  -- no more than there are
  pub fits : put ≤ length out
  -- a run goes on by just these, whatever was read and written before
  pub run : {first : State} {s w : List ℕ} → Run next first last s b st w → Run next first last' (s ++ new) b' st' (w ++ take put out)
