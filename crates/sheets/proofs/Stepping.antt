-- What a step answers, and leaves in the output. Assumes nothing.
use Rattle.findings.specs.Lines.{unread_line}
use Rattle.chars.specs.Pick.{pick}
use borrow.Author.Tests.{le-ltb, lt-ltb}
use Rattle.headers.specs.Header.{header, row_cells}
use Rattle.csv_rows.specs.Reader.{byte_of}
use Rattle.csv_rows.specs.Answers.{answer, skipped}
use Rattle.sheets.specs.declared.Taken.{Taken}
use mathlib.Core.Bool.{Bool}
use Rattle.csv_rows.specs.declared.RowRead.TheVariants.{Row, Faulty, Endless, More as MoreOf, Nothing}
use Rattle.csv_rows.specs.declared.Skipped.TheVariants.{Ended, On, Wait as Unknown, Over as NoMore}
use Rattle.csv_rows.specs.declared.Fault.{Fault}
use Rattle.csv_rows.specs.declared.Separator.{Separator}
use Rattle.headers.specs.declared.Columns.{Columns}
use Rattle.headers.specs.declared.Header.TheVariants.{Wait, Without, With}
use Rattle.headers.specs.declared.Unusable.{Unusable}
use Rattle.sheets.specs.declared.Phase.{Phase}
use Rattle.sheets.specs.declared.Phase.TheVariants.{Start, Rows, Skipping}
use Rattle.sheets.specs.Steps.{behind, last_lines, next, row_step, skip_step, start_step, step_in}
use Prim.Native.Nat.{ℕ, ◌≤◌, ◌<◌}
use native.Mathlib.Omega.{arith}
use lib.ListN.{length}
use Rattle.sheets.proofs.Goings.{at_start}
use mathlib.Core.Path.{ap, refl, sym, ◌∙◌, ◌≡◌}
use Rattle.sheets.specs.Reports.{answered, said, answer_with, out_after, table_in, table_with}
use mathlib.Core.List.{List, []}
use Rattle.sheets.specs.Inside.{Going, Stepped, bad_took, row_took}
use Rattle.runs.specs.Steps.Outcome.{wait, took, over}
use Rattle.sheets.specs.declared.Taken.TheVariants.{More, NoRoom, Took, Over}
use Rattle.sheets.specs.declared.State.{State}

-- it waits
pub stepped-wait : {out : List ℕ} → Stepped wait out More out
unfolding answered said
stepped-wait = record { answer_is = refl; output_is = refl }

-- it took bytes of which nothing is said
pub stepped-none : (n : ℕ) (out : List ℕ) {kept kept' : State} → kept ≡ kept' → Stepped (took n [] kept') out (Took n 0 kept) out
unfolding answered said
stepped-none n out e = record { answer_is = ap (Took n 0) e; output_is = refl }

-- it took bytes, and this is said, which is short enough
module _ {t out out' : List ℕ} {p m : ℕ} (g : Going t out 0 out' p) (h : length t ≤ m) (k : m ≤ 262144) (l : 262144 ≤ length out) where
  pub stepped-took : (n : ℕ) {kept kept' : State} → kept ≡ kept' → Stepped (took n t kept') out (Took n p kept) out'
  unfolding answered said
  stepped-took n e = let x = at_start g (omega (arith, h, k, l)) in record { answer_is = rw (e, x.0); output_is = x.1 }

  -- or it is over
  pub stepped-over : Stepped (over t) out (Over p) out'
  unfolding answered said
  stepped-over = let x = at_start g (omega (arith, h, k, l)) in record { answer_is = rw x.0; output_is = x.1 }

-- a step over rows, by what is read there
module _ (last : Bool) (s : List ℕ) (st : State) {out out' : List ℕ} {r : Taken} where
  pub row_read : {end count : ℕ} {cs : List (List ℕ)} → answer (byte_of st.separator) last s ≡ Row end count → cs ≡ row_cells st.separator last s
      → Stepped (row_took st s end count cs) out r out' → Stepped (step_in Rows last s st) out r out'
  unfolding step_in
  row_read e k x = rw (e, ← k) x

  pub row-faulty : {end : ℕ} {f : Fault} → answer (byte_of st.separator) last s ≡ Faulty end f → Stepped (bad_took st s end f Rows) out r out' → Stepped (step_in Rows last s st) out r out'
  unfolding step_in row_step
  row-faulty e x = rw e x

  pub row-endless : {f : Fault} → answer (byte_of st.separator) last s ≡ Endless f → Stepped (bad_took st s 65536 f Skipping) out r out' → Stepped (step_in Rows last s st) out r out'
  unfolding step_in row_step
  row-endless e x = rw e x

  pub row_more : answer (byte_of st.separator) last s ≡ MoreOf → Stepped wait out r out' → Stepped (step_in Rows last s st) out r out'
  unfolding step_in row_step
  row_more e x = rw e x

  pub row-nothing : answer (byte_of st.separator) last s ≡ Nothing → Stepped (over (last_lines st.tally)) out r out' → Stepped (step_in Rows last s st) out r out'
  unfolding step_in row_step
  row-nothing e x = rw e x

  pub start-waits : header last s ≡ Wait → Stepped wait out r out' → Stepped (step_in Start last s st) out r out'
  unfolding step_in start_step
  start-waits e x = rw e x

  pub start-ends : {why : Unusable} → header last s ≡ Without why → Stepped (over (unread_line why)) out r out' → Stepped (step_in Start last s st) out r out'
  unfolding step_in start_step
  start-ends e x = rw e x

  pub start-begins : {bytes cells : ℕ} {sep : Separator} {c : Columns} → header last s ≡ With bytes sep c cells
      → Stepped (took bytes [] (behind (record { phase = Rows; separator = sep; columns = c; cells = cells; line = st.line; tally = st.tally }) s bytes Rows st.tally)) out r out'
      → Stepped (step_in Start last s st) out r out'
  unfolding step_in start_step behind
  start-begins e x = rw e x

  pub skip-ends : {n : ℕ} → skipped last s ≡ Ended n → Stepped (took n [] (behind st s n Rows st.tally)) out r out' → Stepped (step_in Skipping last s st) out r out'
  unfolding step_in skip_step
  skip-ends e x = rw e x

  pub skip-goes : skipped last s ≡ On → Stepped (took 65536 [] (behind st s 65536 Skipping st.tally)) out r out' → Stepped (step_in Skipping last s st) out r out'
  unfolding step_in skip_step
  skip-goes e x = rw e x

  pub skip-more : skipped last s ≡ Unknown → Stepped wait out r out' → Stepped (step_in Skipping last s st) out r out'
  unfolding step_in skip_step
  skip-more e x = rw e x

  pub skip-nothing : skipped last s ≡ NoMore → Stepped (over (last_lines st.tally)) out r out' → Stepped (step_in Skipping last s st) out r out'
  unfolding step_in skip_step
  skip-nothing e x = rw e x

-- a step is that of its phase
next_is : (last : Bool) (s : List ℕ) (st : State) (p : Phase) → st.phase ≡ p → next last s st ≡ step_in p last s st
unfolding next
next_is last s st p e = ap (λ (q : Phase). step_in q last s st) e

-- a whole step with room, by its phase
module _ (last : Bool) (s : List ℕ) (st : State) (out : List ℕ) (h : 262144 ≤ length out) (p : Phase) (e : st.phase ≡ p) where
  pub with-room : {out' : List ℕ} {r : Taken} → Stepped (step_in p last s st) out r out' → (r ≡ answer_with (length out) (next last s st)) × (out' ≡ out_after out (next last s st))
  unfolding answer_with out_after pick
  with-room x = rw (le-ltb (length out) 262144 h, next_is last s st p e) (x.answer_is, x.output_is)

  pub table_kept : (table : List ℕ) {t : List ℕ} → t ≡ table_in p st last s table → t ≡ table_with (length out) st last s table
  unfolding table_with pick
  table_kept table x = rw (le-ltb (length out) 262144 h) (x ∙ ap (λ (q : Phase). table_in q st last s table) (sym e))

-- without room
module _ (last : Bool) (s : List ℕ) (st : State) (out table : List ℕ) (h : length out < 262144) where
  pub no_step : (NoRoom ≡ answer_with (length out) (next last s st)) × ((out ≡ out_after out (next last s st)) × (table ≡ table_with (length out) st last s table))
  unfolding answer_with out_after table_with pick
  no_step = rw (lt-ltb (length out) 262144 h) (refl, (refl, refl))
