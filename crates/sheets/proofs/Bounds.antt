-- What a step says has at most 262,144 bytes. Assumes nothing.
use Rattle.sheets.proofs.RowLaws.{good-short}
use Rattle.sheets.proofs.Copies.{undoubled-short}
use mathlib.Core.Path.{refl, ◌≡◌}
use mathlib.Core.Bool.{Bool}
use lib.ListN.{length, length-append, take}
use Rattle.verdicts.specs.Dates.{date_verdict}
use Rattle.sheets.specs.Rows.{checked_row, checked_said, date_said, dates_said, key_column, lines_by, own_at, row_said, six_of, six_said, text_at}
use native.Mathlib.Omega.{arith}
use Rattle.findings.proofs.Short.{date-short, six-short}
use Rattle.findings.proofs.Bounds.{date-line-most, six-line-most, bad-row-most, summary-most, unread-most}
use Rattle.findings.specs.Words.{capped}
use Rattle.findings.specs.Lines.{bad_row_line, unread_line}
use Rattle.runs.specs.Steps.{Outcome}
use Rattle.runs.specs.Steps.Outcome.{wait, took, over}
use Rattle.runs.specs.Runs.{Run}
use Rattle.runs.specs.Runs.Run.{start, read, end as file_end, step}
use Rattle.csv_rows.specs.declared.Fault.{Fault}
use Rattle.csv_rows.specs.declared.RowRead.{RowRead}
use Rattle.csv_rows.specs.declared.RowRead.TheVariants.{Row, Faulty, Endless, More, Nothing}
use Rattle.csv_rows.specs.declared.Skipped.{Skipped}
use Rattle.csv_rows.specs.declared.Skipped.TheVariants.{Ended, On, Wait as Unknown, Over as NoMore}
use Rattle.csv_rows.specs.Reader.{byte_of}
use Rattle.csv_rows.specs.Bytes.{feeds}
use Rattle.csv_rows.specs.Answers.{answer, skipped}
use Rattle.headers.specs.declared.RowFault.TheVariants.{Broken}
use Rattle.headers.specs.declared.Header.{Header}
use Rattle.headers.specs.declared.Header.TheVariants.{Wait, Without, With}
use Rattle.headers.specs.Header.{header, row_cells}
use Rattle.sheets.specs.declared.Phase.{Phase}
use Rattle.sheets.specs.declared.Phase.TheVariants.{Start, Rows, Skipping}
use Rattle.sheets.specs.declared.Tally.{Tally}
use Rattle.sheets.specs.declared.State.{State}
use Rattle.sheets.specs.Tallies.{one_bad}
use Rattle.sheets.specs.Steps.{behind, last_lines, start_step, row_step, skip_step, step_in, next, fresh}
use Rattle.sheets.specs.Reports.{said}
use Rattle.sheets.proofs.Amounts.{capped_is, Within, counts-within, none_within, bad-amount, checked-amount}
use Rattle.sheets.specs.Inside.{Short}
use mathlib.Core.List.{List, []}
use Rattle.headers.specs.declared.Columns.{Columns}
use Prim.Native.Nat.{◌+◌, ◌<◌, ℕ, ◌≤◌}
use Rattle.findings.specs.declared.Column.{Column}
use Rattle.findings.specs.declared.Column.TheVariants.{Date, Origdate, Eventdate, Urldate}
use Rattle.std.specs.Prelude.{Result, Ok, Err}
use Rattle.headers.specs.declared.RowFault.{RowFault}

module _ (line : ℕ) (small : line < 4294967296) (c : Columns) (cs : List (List ℕ)) (h : Short c cs) where
  -- a text is as short as its own bytes
  text-short : (k : ℕ) → length (own_at cs k) ≤ 4096 → length (text_at cs k) ≤ 4096
  text-short k l = omega (arith, undoubled-short (own_at cs k))

  abbrev key : List ℕ
  key = text_at cs (key_column c)

  date-most : (column : Column) (k : ℕ) → length (own_at cs k) ≤ 4096 → length (date_said line key column (text_at cs k)) ≤ 33200
  unfolding date_said
  date-most column k l = date-line-most line key (date_verdict (text_at cs k)) small (text-short (key_column c) h.key) (date-short (text_at cs k)) column (text_at cs k) _ (text-short k l)

  six-most : length (six_said line key c cs) ≤ 115600
  unfolding six_said six_of
  six-most =
      six-line-most line key _ small (text-short (key_column c) h.key) (six-short _ _) _ _ _ _ _ _ (text-short _ h.year) (text-short _ h.month) (text-short _ h.day) (text-short _ h.endyear) (text-short _ h.endmonth) (text-short _ h.endday)

  -- the lines of a row
  pub row-most : length (row_said line c cs) ≤ 262144
  unfolding row_said lines_by dates_said
  row-most =
      let a = date-most Date c.date h.date in
      let b = date-most Origdate c.origdate h.origdate in
      let d = date-most Eventdate c.eventdate h.eventdate in
      let e = date-most Urldate c.urldate h.urldate in
      let f = six-most in
      simp length-append (omega arith)

good-said : (line : ℕ) (c : Columns) (cs : List (List ℕ)) → line < 4294967296 → Short c cs → length (checked_said line c cs (Ok tt)) ≤ 262144
unfolding checked_said
good-said line c cs small h = row-most line small c cs h

bad-said : (line : ℕ) (c : Columns) (cs : List (List ℕ)) (f : RowFault) → line < 4294967296 → length (checked_said line c cs (Err f)) ≤ 262144
unfolding checked_said
bad-said line c cs f small = omega (arith, bad-row-most line f small)

-- what is said of a row that was checked
pub checked-most : (line : ℕ) (c : Columns) (width : ℕ) (s : List ℕ) (end count : ℕ) (cs : List (List ℕ)) → line < 4294967296
    → length (checked_said line c cs (checked_row c width s end count cs)) ≤ 262144
checked-most line c width s end count cs small = by-check (checked_row c width s end count cs) refl where
  by-check : (x : Result (Unit {0}) RowFault) → checked_row c width s end count cs ≡ x → length (checked_said line c cs x) ≤ 262144
  by-check (Ok tt) e = good-said line c cs small (good-short c cs width s end count e)
  by-check (Err f) e = bad-said line c cs f small

-- the line and the counts of a state are numbers of 32 bits, as in every state that the code can hold
pub record Low (st : State) : Type 0 where
  pub low_line : st.line < 4294967296
  pub low_tally : Within st.tally

-- a step that says at most so much, and keeps such a state
data Most : Outcome State → Type 0 where
  waits : Most wait
  takes : {n : ℕ} {text : List ℕ} {kept : State} → length text ≤ 262144 → Low kept → Most (took n text kept)
  is_over : {text : List ℕ} → length text ≤ 262144 → Most (over text)

line_low : (n : ℕ) → capped n < 4294967296
line_low n = omega (arith, capped_is n)

last-most : (t : Tally) → Within t → length (last_lines t) ≤ 262144
last-most t w =
    let a = w.low_rows in
    let b = w.low_strict in
    let c = w.low_otherwise in
    let d = w.low_refused in
    let e = w.low_bad in
    omega (arith, summary-most t.rows t.strict t.otherwise t.refused t.bad (omega arith) (omega arith) (omega arith) (omega arith) (omega arith))

module _ (st : State) (low : Low st) (s : List ℕ) where
  behind-low : (n : ℕ) (phase : Phase) (t : Tally) → Within t → Low (behind st s n phase t)
  unfolding behind
  behind-low n phase t w = record { low_line = line_low (st.line + feeds (take n s)); low_tally = w }

  bad-within : Within (one_bad st.tally)
  bad-within = counts-within (bad-amount.counts st.tally) low.low_tally

  broken-most : (f : Fault) → length (bad_row_line st.line (Broken f)) ≤ 262144
  broken-most f = omega (arith, bad-row-most st.line (Broken f) low.low_line)

  start-step : (h : Header) → Most (start_step st s h)
  unfolding start_step
  start-step Wait = waits
  start-step (Without why) = is_over {text = unread_line why} (omega (arith, unread-most why))
  start-step (With bytes sep columns cells) = takes {text = []} (omega arith) (record { low_line = line_low (st.line + feeds (take bytes s)); low_tally = low.low_tally })

  row_step_lem : (r : RowRead) (cs : List (List ℕ)) → Most (row_step st s r cs)
  unfolding row_step
  row_step_lem (Row end count) cs =
      let a = checked-amount st.columns cs (checked_row st.columns st.cells s end count cs) in
      takes (checked-most st.line st.columns st.cells s end count cs low.low_line)
      (behind-low end Rows _ (counts-within (a.counts st.tally) low.low_tally))
  row_step_lem (Faulty end f) cs = takes (broken-most f) (behind-low end Rows _ bad-within)
  row_step_lem (Endless f) cs = takes (broken-most f) (behind-low 65536 Skipping _ bad-within)
  row_step_lem More cs = waits
  row_step_lem Nothing cs = is_over (last-most st.tally low.low_tally)

  skip_step_lem : (r : Skipped) → Most (skip_step st s r)
  unfolding skip_step
  skip_step_lem (Ended n) = takes {text = []} (omega arith) (behind-low n Rows _ low.low_tally)
  skip_step_lem On = takes {text = []} (omega arith) (behind-low 65536 Skipping _ low.low_tally)
  skip_step_lem Unknown = waits
  skip_step_lem NoMore = is_over (last-most st.tally low.low_tally)

  step_in_lem : (last : Bool) (p : Phase) → Most (step_in p last s st)
  unfolding step_in
  step_in_lem last Start = start-step (header last s)
  step_in_lem last Rows = row_step_lem (answer (byte_of st.separator) last s) (row_cells st.separator last s)
  step_in_lem last Skipping = skip_step_lem (skipped last s)

  one-step : (last : Bool) → Most (next last s st)
  unfolding next
  one-step last = step_in_lem last st.phase

of-said : {o : Outcome State} → Most o → length (said o) ≤ 262144
unfolding said
of-said waits = omega arith
of-said (takes h l) = h
of-said (is_over h) = h

of-kept : {n : ℕ} {text : List ℕ} {kept : State} → Most (took n text kept) → Low kept
of-kept (takes h l) = l

-- what one step says has at most 262,144 bytes, from every such state, of every block, wherever the file ends
pub said-most : (last : Bool) (s : List ℕ) (st : State) → Low st → length (said (next last s st)) ≤ 262144
said-most last s st low = of-said (one-step st low s last)

fresh-low : Low fresh
unfolding fresh
fresh-low = record { low_line = omega arith; low_tally = none_within }

run-low : {last : Bool} {s b w : List ℕ} {st : State} → Run next fresh last s b st w → Low st
run-low start = fresh-low
run-low (read new r) = run-low r
run-low (file_end r) = run-low r
run-low {last} (step {b = b} {st = st} r e) = of-kept (rw e at (one-step st (run-low r) b last))

-- so has what the next step says at each place of each run over a file, for the states of a run are such
pub run-most : {last : Bool} {s b w : List ℕ} {st : State} → Run next fresh last s b st w → length (said (next last b st)) ≤ 262144
run-most {last} {b = b} {st = st} r = said-most last b st (run-low r)
