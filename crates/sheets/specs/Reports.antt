-- What a step answers, what it leaves in what is lent, and the report on a file.
use Rattle.std.specs.Prelude.{ℕ, Bool, List, [], ◌++◌, ltb, length, drop}
use Rattle.chars.specs.Pick.{pick}
use Rattle.runs.specs.Steps.{Outcome, report_on}
use Rattle.runs.specs.Steps.Outcome.{wait, took, over}
use Rattle.csv_rows.specs.Reader.{byte_of}
use Rattle.csv_rows.specs.Answers.{table_after}
use Rattle.sheets.specs.declared.Phase.{Phase}
use Rattle.sheets.specs.declared.Phase.TheVariants.{Start, Rows, Skipping}
use Rattle.sheets.specs.declared.State.{State}
use Rattle.sheets.specs.declared.Taken.{Taken}
use Rattle.sheets.specs.declared.Taken.TheVariants.{More, NoRoom, Took, Over}
use Rattle.sheets.specs.Steps.{next, fresh}

-- what is said
unfoldable pub said : Outcome State → List ℕ
said wait = []
said (took n text kept) = text
said (over text) = text

-- what is answered
unfoldable pub answered : Outcome State → Taken
answered wait = More
answered (took n text kept) = Took n (length text) kept
answered (over text) = Over (length text)

-- the answer of a step: no room exactly if there are fewer than 262,144 bytes for what it may say
unfoldable pub answer_with : ℕ → Outcome State → Taken
answer_with room o = pick (ltb room 262144) NoRoom (answered o)

-- the output after it: what is said stands at its front
unfoldable pub out_after : List ℕ → Outcome State → List ℕ
out_after out o = pick (ltb (length out) 262144) out (said o ++ drop (length (said o)) out)

-- the table after a step of that phase: a step over rows has the places of the cells there
unfoldable pub table_in : Phase → State → Bool → List ℕ → List ℕ → List ℕ
table_in Start st last s table = table
table_in Rows st last s table = table_after (byte_of st.separator) last s table
table_in Skipping st last s table = table

-- the table after a step with so much room
unfoldable pub table_with : ℕ → State → Bool → List ℕ → List ℕ → List ℕ
table_with room st last s table = pick (ltb room 262144) table (table_in st.phase st last s table)

-- the report on an import file
unfoldable pub report : List ℕ → List ℕ
report s = report_on next fresh s
