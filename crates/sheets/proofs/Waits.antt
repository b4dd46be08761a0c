-- A step waits only before the file's end, and only of a block that is short. Assumes nothing.
use mathlib.Core.Path.{◌≡◌, refl}
use mathlib.Core.Bool.{Bool, false}
use mathlib.Core.List.{List}
use Prim.Native.Nat.{ℕ, ◌≤◌}
use native.Mathlib.Omega.{arith}
use lib.ListN.{length}
use Rattle.runs.specs.Steps.{Outcome}
use Rattle.runs.specs.Steps.Outcome.{wait, took, over}
use Rattle.csv_rows.specs.declared.RowRead.{RowRead}
use Rattle.csv_rows.specs.declared.RowRead.TheVariants.{Row, Faulty, Endless, More, Nothing}
use Rattle.csv_rows.specs.declared.Skipped.{Skipped}
use Rattle.csv_rows.specs.Reader.{byte_of}
use Rattle.csv_rows.specs.Answers.{answer}
use Rattle.csv_rows.proofs.Moves.{more-short}
use Rattle.csv_rows.proofs.Lines.{skip-moves, Skips}
use Rattle.csv_rows.proofs.Lines.Skips.{skips_to, skips_on, skips_wait, skips_over}
use Rattle.headers.specs.declared.Header.{Header}
use Rattle.headers.specs.declared.Header.TheVariants.{Wait, Without, With}
use Rattle.headers.specs.Header.{header, row_cells}
use Rattle.headers.proofs.Stays.{header-waits}
use Rattle.sheets.specs.declared.Phase.{Phase}
use Rattle.sheets.specs.declared.Phase.TheVariants.{Start, Rows, Skipping}
use Rattle.sheets.specs.declared.State.{State}
use Rattle.sheets.specs.Steps.{start_step, row_step, skip_step, step_in, next}

took-waits : {n : ℕ} {text : List ℕ} {kept : State} → took n text kept ≡ wait → ⊥
took-waits e = let z : ◌≡◌ {A = ℕ} 0 1 = cc in omega arith

over-waits : {text : List ℕ} → ◌≡◌ {A = Outcome State} (over text) wait → ⊥
over-waits e = let z : ◌≡◌ {A = ℕ} 0 1 = cc in omega arith

module _ (st : State) (last : Bool) (s : List ℕ) where
  abbrev Short : Type 0
  Short = (last ≡ false) × (length s ≤ 65539)

  start-short : (h : Header) → header last s ≡ h → start_step st s h ≡ wait → Short
  unfolding start_step
  start-short Wait e w = header-waits last s e
  start-short (Without why) e w = absurd (over-waits w)
  start-short (With bytes sep columns cells) e w = absurd (took-waits w)

  row-short : (r : RowRead) (cs : List (List ℕ)) → answer (byte_of st.separator) last s ≡ r → row_step st s r cs ≡ wait → Short
  unfolding row_step
  row-short (Row end count) cs e w = absurd (took-waits w)
  row-short (Faulty end f) cs e w = absurd (took-waits w)
  row-short (Endless f) cs e w = absurd (took-waits w)
  row-short More cs e w = let m = more-short (byte_of st.separator) last s e in (m.0, omega (arith, m.1))
  row-short Nothing cs e w = absurd (over-waits w)

  skip-short : {r : Skipped} → Skips last s r → skip_step st s r ≡ wait → Short
  unfolding skip_step
  skip-short (skips_to h k l) w = absurd (took-waits w)
  skip-short (skips_on h) w = absurd (took-waits w)
  skip-short (skips_wait h k) w = (h, omega arith)
  skip-short (skips_over h k) w = absurd (over-waits w)

  step-short : (p : Phase) → step_in p last s st ≡ wait → Short
  unfolding step_in
  step-short Start w = start-short (header last s) refl w
  step-short Rows w = row-short (answer (byte_of st.separator) last s) (row_cells st.separator last s) refl w
  step-short Skipping w = skip-short (skip-moves last s) w

-- what is waited for is the rest of a row of at most 65,536 bytes, before which a byte order mark may stand
pub waits-short : (last : Bool) (s : List ℕ) (st : State) → next last s st ≡ wait → (last ≡ false) × (length s ≤ 65539)
unfolding next
waits-short last s st w = step-short st last s st.phase w
