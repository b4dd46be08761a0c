-- What the private functions say of the output. No public contract rests on it.
use Rattle.runs.specs.Steps.{Outcome}
use Rattle.runs.specs.Steps.Outcome.{took, over}
use Rattle.csv_rows.specs.declared.Fault.{Fault}
use Rattle.csv_rows.specs.declared.RowRead.TheVariants.{Row}
use Rattle.headers.specs.declared.RowFault.TheVariants.{Broken}
use Rattle.sheets.specs.declared.Phase.{Phase}
use Rattle.sheets.specs.declared.State.{State}
use Rattle.sheets.specs.declared.Taken.{Taken}
use Rattle.sheets.specs.Steps.{behind, row_step}
use Rattle.sheets.specs.Reports.{said, answered}
use Rattle.std.specs.Prelude.{ℕ, ◌+◌, ◌≤◌, ◌≡◌, List, ◌++◌, length, drop, Result, Ok, Err}
use Rattle.refusals.specs.declared.Refusal.{Refusal}
use Rattle.puts.specs.Answers.{Put}
use Rattle.csv_rows.specs.Texts.{undoubled}
use Rattle.verdicts.specs.declared.Verdict.{Verdict}
use Rattle.verdicts.specs.Fields.{cells, six_verdict}
use Rattle.findings.specs.Lines.{six_line, bad_row_line}
use Rattle.headers.specs.declared.Columns.{Columns}
use Rattle.sheets.specs.declared.Tally.{Tally}
use Rattle.sheets.specs.declared.Said.{Said}
use Rattle.sheets.specs.Tallies.{one_date, one_bad}
use Rattle.sheets.specs.Rows.{own_at, key_column, checked_row, checked_said, checked_counted}

-- a text was put behind a place, if there was room for it; the place behind it is within the output
pub record Going (t before : List ℕ) (at : ℕ) (after : List ℕ) (next : ℕ) : Type 0 where
  -- with room
  pub put : at + length t ≤ length before → Put t before at after next
  -- the place
  pub within : next ≤ length after
  -- the output is as long as before
  pub same : length after ≡ length before

-- a text was put, and this is counted
pub record Told (t : List ℕ) (count : Tally → Tally) (before : List ℕ) (s : Said) (after : List ℕ) (r : Said) : Type 0 where
  -- the text
  pub text : Going t before s.put after r.put
  -- the count
  pub tally : r.tally ≡ count s.tally

-- the cells that are looked at are short
pub record Short (c : Columns) (cs : List (List ℕ)) : Type 0 where
  -- that of the key
  pub key : length (own_at cs (key_column c)) ≤ 4096
  -- of `date`
  pub date : length (own_at cs c.date) ≤ 4096
  -- of `origdate`
  pub origdate : length (own_at cs c.origdate) ≤ 4096
  -- of `eventdate`
  pub eventdate : length (own_at cs c.eventdate) ≤ 4096
  -- of `urldate`
  pub urldate : length (own_at cs c.urldate) ≤ 4096
  -- of `year`
  pub year : length (own_at cs c.year) ≤ 4096
  -- of `month`
  pub month : length (own_at cs c.month) ≤ 4096
  -- of `day`
  pub day : length (own_at cs c.day) ≤ 4096
  -- of `endyear`
  pub endyear : length (own_at cs c.endyear) ≤ 4096
  -- of `endmonth`
  pub endmonth : length (own_at cs c.endmonth) ≤ 4096
  -- of `endday`
  pub endday : length (own_at cs c.endday) ≤ 4096

-- the place behind what a writer wrote
unfoldable pub advanced_by : ℕ → Result ℕ Refusal → ℕ
advanced_by p (Ok n) = p + n
advanced_by p (Err e) = p

-- it is a number of 64 bits
abbrev pub InRange : ℕ → Result ℕ Refusal → Type 0
InRange p w = (n : ℕ) → w ≡ Ok n → p + n ≤ 18446744073709551615

-- the count of a date
abbrev pub counting : Verdict → Tally → Tally
counting v t = one_date t v

-- the line of six texts was put, and their date is counted
abbrev pub SixTold : ℕ → List ℕ → List ℕ → List ℕ → List ℕ → List ℕ → List ℕ → List ℕ → List ℕ → Said → List ℕ → Said → Type 0
SixTold line key year month day end_year end_month end_day before s after r =
    Told (six_line line key year month day end_year end_month end_day (six_verdict (cells year month day) (cells end_year end_month end_day)))
    (counting (six_verdict (cells year month day) (cells end_year end_month end_day))) before s after r

-- the own bytes of six cells are their texts
pub record NoQuotes (year month day end_year end_month end_day : List ℕ) : Type 0 where
  -- those of `year`
  pub year_is : undoubled year ≡ year
  -- of `month`
  pub month_is : undoubled month ≡ month
  -- of `day`
  pub day_is : undoubled day ≡ day
  -- of `endyear`
  pub endyear_is : undoubled end_year ≡ end_year
  -- of `endmonth`
  pub endmonth_is : undoubled end_month ≡ end_month
  -- of `endday`
  pub endday_is : undoubled end_day ≡ end_day

-- nothing is put yet, and this is counted
abbrev pub at_start : Tally → Said
at_start t = record { put = 0; tally = t }

-- what is said of a row was put at the front, and it is counted
abbrev pub RowTold : ℕ → Columns → ℕ → List ℕ → ℕ → ℕ → List (List ℕ) → List ℕ → Tally → List ℕ → Said → Type 0
RowTold line c width s end count cs before t after r =
    Told (checked_said line c cs (checked_row c width s end count cs)) (checked_counted c cs (checked_row c width s end count cs)) before (at_start t) after r

-- a step with enough room
pub record Stepped (o : Outcome State) (before : List ℕ) (r : Taken) (after : List ℕ) : Type 0 where
  -- its answer
  pub answer_is : r ≡ answered o
  -- the output
  pub output_is : after ≡ said o ++ drop (length (said o)) before

-- the report ends with this
abbrev pub over_with : List ℕ → Outcome State
over_with t = over t

-- a row with a fault is taken
abbrev pub bad_took : State → List ℕ → ℕ → Fault → Phase → Outcome State
bad_took st s n f phase = took n (bad_row_line st.line (Broken f)) (behind st s n phase (one_bad st.tally))

-- a row that is read is taken
abbrev pub row_took : State → List ℕ → ℕ → ℕ → List (List ℕ) → Outcome State
row_took st s end count cs = row_step st s (Row end count) cs
