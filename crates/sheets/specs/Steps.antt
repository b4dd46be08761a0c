-- One step over a block of an import file: its header, a row, or a piece of a line that is skipped.
use Rattle.std.specs.Prelude.{ℕ, ◌+◌, Bool, List, [], take}
use Rattle.runs.specs.Steps.{Outcome}
use Rattle.runs.specs.Steps.Outcome.{wait, took, over}
use Rattle.csv_rows.specs.declared.Separator.TheVariants.{Comma}
use Rattle.csv_rows.specs.declared.RowRead.{RowRead}
use Rattle.csv_rows.specs.declared.RowRead.TheVariants.{Row, Faulty, Endless, More, Nothing}
use Rattle.csv_rows.specs.declared.Skipped.{Skipped}
use Rattle.csv_rows.specs.declared.Skipped.TheVariants.{Ended, On, Wait as Unknown, Over as NoMore}
use Rattle.csv_rows.specs.Reader.{byte_of}
use Rattle.csv_rows.specs.Answers.{answer, skipped}
use Rattle.csv_rows.specs.Bytes.{feeds}
use Rattle.headers.specs.declared.RowFault.TheVariants.{Broken}
use Rattle.findings.specs.Words.{capped}
use Rattle.findings.specs.Lines.{bad_row_line, summary, unread_line}
use Rattle.headers.specs.declared.Columns.{Columns}
use Rattle.headers.specs.declared.Header.{Header}
use Rattle.headers.specs.declared.Header.TheVariants.{Wait, Without, With}
use Rattle.headers.specs.Header.{header, row_cells}
use Rattle.sheets.specs.declared.Phase.{Phase}
use Rattle.sheets.specs.declared.Phase.TheVariants.{Start, Rows, Skipping}
use Rattle.sheets.specs.declared.Tally.{Tally}
use Rattle.sheets.specs.declared.State.{State}
use Rattle.sheets.specs.Tallies.{one_bad}
use Rattle.sheets.specs.Rows.{checked_row, checked_said, checked_counted}

-- the state behind n bytes of a block, with what was counted
unfoldable pub behind : State → List ℕ → ℕ → Phase → Tally → State
behind st s n phase t =
    record { phase = phase; separator = st.separator; columns = st.columns; cells = st.cells; line = capped (st.line + feeds (take n s)); tally = t }

-- the two lines at the end
abbrev pub last_lines : Tally → List ℕ
last_lines t = summary t.rows t.strict t.otherwise t.refused t.bad

-- the header is read first
unfoldable pub start_step : State → List ℕ → Header → Outcome State
start_step st s Wait = wait
start_step st s (Without why) = over (unread_line why)
start_step st s (With bytes sep columns cells) =
    took bytes [] (record { phase = Rows; separator = sep; columns = columns; cells = cells; line = capped (st.line + feeds (take bytes s)); tally = st.tally })

-- then rows; of one whose line does not end within 65,536 bytes these are taken, and the rest is skipped
unfoldable pub row_step : State → List ℕ → RowRead → List (List ℕ) → Outcome State
row_step st s (Row end count) cs =
    took end (checked_said st.line st.columns cs (checked_row st.columns st.cells s end count cs))
    (behind st s end Rows (checked_counted st.columns cs (checked_row st.columns st.cells s end count cs) st.tally))
row_step st s (Faulty end f) cs = took end (bad_row_line st.line (Broken f)) (behind st s end Rows (one_bad st.tally))
row_step st s (Endless f) cs = took 65536 (bad_row_line st.line (Broken f)) (behind st s 65536 Skipping (one_bad st.tally))
row_step st s More cs = wait
row_step st s Nothing cs = over (last_lines st.tally)

-- the rest of a line is skipped
unfoldable pub skip_step : State → List ℕ → Skipped → Outcome State
skip_step st s (Ended n) = took n [] (behind st s n Rows st.tally)
skip_step st s On = took 65536 [] (behind st s 65536 Skipping st.tally)
skip_step st s Unknown = wait
skip_step st s NoMore = over (last_lines st.tally)

-- a step by the phase
unfoldable pub step_in : Phase → Bool → List ℕ → State → Outcome State
step_in Start last s st = start_step st s (header last s)
step_in Rows last s st = row_step st s (answer (byte_of st.separator) last s) (row_cells st.separator last s)
step_in Skipping last s st = skip_step st s (skipped last s)

-- a step over a block; `last` says that the file ends behind it
unfoldable pub next : Bool → List ℕ → State → Outcome State
next last s st = step_in st.phase last s st

-- nothing is counted yet
abbrev pub no_tally : Tally
no_tally = record { rows = 0; strict = 0; otherwise = 0; refused = 0; bad = 0 }

-- no column is known yet
abbrev pub no_columns : Columns
no_columns =
    record {
      date = 256;
      origdate = 256;
      eventdate = 256;
      urldate = 256;
      year = 256;
      month = 256;
      day = 256;
      endyear = 256;
      endmonth = 256;
      endday = 256;
      key = 256;
      id = 256;
    }

-- the state at the start of a file, on its first line
unfoldable pub fresh : State
fresh = record { phase = Start; separator = Comma; columns = no_columns; cells = 0; line = 1; tally = no_tally }
