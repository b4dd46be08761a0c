-- The steps over an import file do not depend on how it comes in blocks. Assumes nothing.
use mathlib.Core.Path.{◌≡◌, refl, sym}
use mathlib.Core.Bool.{Bool, true, false, false≢true}
use mathlib.Core.List.{List, ◌++◌}
use Prim.Native.Nat.{ℕ, ◌≤◌, ◌<◌}
use native.Mathlib.Omega.{arith}
use lib.ListN.{length}
use lib.Seq.{take-append-le}
use Rattle.runs.specs.Steps.{Outcome, Steady}
use Rattle.runs.specs.Steps.Outcome.{wait, took, over}
use Rattle.csv_rows.specs.declared.RowRead.{RowRead}
use Rattle.csv_rows.specs.declared.RowRead.TheVariants.{Row, Faulty, Endless, More, Nothing}
use Rattle.csv_rows.specs.declared.Skipped.{Skipped}
use Rattle.csv_rows.specs.declared.Skipped.TheVariants.{Wait as Unknown}
use Rattle.csv_rows.specs.Reader.{byte_of}
use Rattle.csv_rows.specs.Answers.{answer, skipped}
use Rattle.csv_rows.proofs.Stable.{stays}
use Rattle.csv_rows.proofs.Moves.{row-advances, fault-advances, endless-long, more-short}
use Rattle.csv_rows.proofs.Lines.{skip-stays, skip-moves, Skips}
use Rattle.csv_rows.proofs.Lines.Skips.{skips_to, skips_on, skips_wait, skips_over}
use Rattle.headers.specs.declared.Header.{Header}
use Rattle.headers.specs.declared.Header.TheVariants.{Wait, Without, With}
use Rattle.headers.specs.Header.{header, row_cells}
use Rattle.headers.proofs.Moves.{header-advances}
use Rattle.headers.proofs.Stays.{cells_stay, header-stays, header-waits}
use Rattle.sheets.specs.declared.Phase.{Phase}
use Rattle.sheets.specs.declared.Phase.TheVariants.{Start, Rows, Skipping}
use Rattle.sheets.specs.declared.State.{State}
use Rattle.sheets.specs.Rows.{checked_row}
use Rattle.sheets.specs.Steps.{behind, start_step, row_step, skip_step, step_in, next}

-- a step of each phase stays as it is
module _ (st : State) (s : List ℕ) where
  start-stays : (t : List ℕ) (h : Header) → header false s ≡ h → start_step st (s ++ t) h ≡ start_step st s h
  unfolding start_step
  start-stays t Wait e = refl
  start-stays t (Without why) e = refl
  start-stays t (With bytes sep columns cells) e = rw (take-append-le bytes s t (header-advances false s e).1)

  row_stays : (t : List ℕ) (r : RowRead) (cs : List (List ℕ)) → answer (byte_of st.separator) false s ≡ r → row_step st (s ++ t) r cs ≡ row_step st s r cs
  unfolding row_step behind checked_row
  row_stays t (Row end count) cs e = rw (take-append-le end s t (row-advances (byte_of st.separator) false s e).1)
  row_stays t (Faulty end f) cs e = rw (take-append-le end s t (fault-advances (byte_of st.separator) false s e).1)
  row_stays t (Endless f) cs e = let l = endless-long (byte_of st.separator) false s e in rw (take-append-le 65536 s t (omega arith))
  row_stays t More cs e = refl
  row_stays t Nothing cs e = refl

  skip-step-stays : (t : List ℕ) {r : Skipped} → Skips false s r → skip_step st (s ++ t) r ≡ skip_step st s r
  unfolding skip_step behind
  skip-step-stays t (skips_to {n} h k l) = rw (take-append-le n s t k)
  skip-step-stays t (skips_on h) = rw (take-append-le 65536 s t h)
  skip-step-stays t (skips_wait h k) = refl
  skip-step-stays t (skips_over h k) = refl

  start-waits : header false s ≡ Wait → step_in Start false s st ≡ wait
  unfolding step_in start_step
  start-waits e = rw e

  row-waits : answer (byte_of st.separator) false s ≡ More → step_in Rows false s st ≡ wait
  unfolding step_in row_step
  row-waits e = rw e

  skip-step-waits : skipped false s ≡ Unknown → step_in Skipping false s st ≡ wait
  unfolding step_in skip_step
  skip-step-waits e = rw e

  step_stays : (p : Phase) (t : List ℕ) (last : Bool) → (step_in p false s st ≡ wait → ⊥) → step_in p last (s ++ t) st ≡ step_in p false s st
  unfolding step_in
  step_stays Start t last h = rw (header-stays s (λ e. h (start-waits e)) last t) (start-stays t (header false s) refl)
  step_stays Rows t last h =
      let n : answer (byte_of st.separator) false s ≡ More → ⊥ = λ e. h (row-waits e) in
      rw ((stays (byte_of st.separator) s n last t).same_answer, cells_stay st.separator s n last t)
      (row_stays t (answer (byte_of st.separator) false s) (row_cells st.separator false s) refl)
  step_stays Skipping t last h = rw (skip-stays s (λ e. h (skip-step-waits e)) last t) (skip-step-stays t (skip-moves false s))

-- an outcome that takes a byte at least, and at most so many, and that waits only before the file's end
data Moving (size : ℕ) (last : Bool) : Outcome State → Type 0 where
  waits : last ≡ false → Moving size last wait
  takes : {n : ℕ} {text : List ℕ} {kept : State} → 0 < n → n ≤ size → Moving size last (took n text kept)
  ends : {text : List ℕ} → Moving size last (over text)

module _ (st : State) (last : Bool) (s : List ℕ) where
  start-moving : (h : Header) → header last s ≡ h → Moving (length s) last (start_step st s h)
  unfolding start_step
  start-moving Wait e = waits (header-waits last s e).0
  start-moving (Without why) e = ends
  start-moving (With bytes sep columns cells) e = let a = header-advances last s e in takes a.0 a.1

  row-moving : (r : RowRead) (cs : List (List ℕ)) → answer (byte_of st.separator) last s ≡ r → Moving (length s) last (row_step st s r cs)
  unfolding row_step
  row-moving (Row end count) cs e = let a = row-advances (byte_of st.separator) last s e in takes a.0 a.1
  row-moving (Faulty end f) cs e = let a = fault-advances (byte_of st.separator) last s e in takes a.0 a.1
  row-moving (Endless f) cs e =
      let l = endless-long (byte_of st.separator) last s e in
      let a : 0 < 65536 = omega arith in
      let b : 65536 ≤ length s = omega arith in
      takes a b
  row-moving More cs e = waits (more-short (byte_of st.separator) last s e).0
  row-moving Nothing cs e = ends

  skip-moving : {r : Skipped} → Skips last s r → Moving (length s) last (skip_step st s r)
  unfolding skip_step
  skip-moving (skips_to h k l) = takes h k
  skip-moving (skips_on h) = let a : 0 < 65536 = omega arith in takes a h
  skip-moving (skips_wait h k) = waits h
  skip-moving (skips_over h k) = ends

  step-moving : (p : Phase) → Moving (length s) last (step_in p last s st)
  unfolding step_in
  step-moving Start = start-moving (header last s) refl
  step-moving Rows = row-moving (answer (byte_of st.separator) last s) (row_cells st.separator last s) refl
  step-moving Skipping = skip-moving (skip-moves last s)

takes-some : {size n : ℕ} {last : Bool} {text : List ℕ} {kept : State} → Moving size last (took n text kept) → (0 < n) × (n ≤ size)
takes-some (takes h k) = (h, k)

waits-early : {size : ℕ} {last : Bool} → Moving size last wait → last ≡ false
waits-early (waits h) = h

-- the steps over an import file are steady
pub steady : Steady next
unfolding next
steady =
    record {
      stable = λ b rest st last h. step_stays st b st.phase rest last h;
      moves = λ last b st e. takes-some (rw e at (step-moving st last b st.phase));
      decides = λ b st e. false≢true (sym (waits-early (rw e at (step-moving st true b st.phase))));
    }
