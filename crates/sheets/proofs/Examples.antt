-- Worked examples: rows, steps, limits, and the reports on small files, every byte. Each answer is written out. Their dates are such that
-- the readers are not asked, whose own examples are in `verdicts`. Assumes nothing.
use mathlib.Core.Path.{◌≡◌, refl, subst}
use mathlib.Core.Bool.{true, false}
use mathlib.Core.List.{List, [], ◌∷◌, ◌++◌, map}
use Prim.Native.Nat.{ℕ, zero, suc, ◌+◌}
use native.Mathlib.Omega.{arith}
use lib.IntN.{pos}
use lib.ListN.{length, take, drop}
use lib.Seq.{take-append_seam}
use Rattle.chars.specs.Pick.{pick}
use Rattle.chars.specs.Ascii.{ascii}
use Rattle.chars.specs.Classes.{within, is_admitted}
use Rattle.chars.specs.Utf8.{len_of, is_cont, is_surrogate, decode2, decode3, decode4, decode, first, decode_at, len_d}
use Rattle.refusals.specs.declared.Kind.TheVariants.{InvalidFormat}
use Rattle.refusals.specs.Refusal.{refusal, nowhere}
use Rattle.std.specs.Prelude.{None, Ok, Err}
use Rattle.dates.specs.declared.DateValue.TheVariants.{At}
use Rattle.dates.specs.declared.Date.{Date as DateOf}
use Rattle.dates.specs.Value.{datetime, date}
use Rattle.puts.specs.Numbers.{count, digit_count, width, decimal}
use Rattle.chunks.specs.Characters.{and_then, up_to as chars_up_to, characters}
use Rattle.chunks.specs.Chunks.{chunks_of, kinds_known, lengths, fits, is_short}
use Rattle.chunks.specs.Check.{fault_in, or_else, fault_of, checked as list_checked}
use Rattle.fields.specs.Names.{lower}
use Rattle.reading_laws.specs.Field.{on_clean, parsed, parsed_strict}
use Rattle.runs.specs.Steps.{told, report_by, report_on}
use Rattle.runs.specs.Steps.Outcome.{wait, took, over}
use Rattle.csv_rows.specs.declared.Separator.TheVariants.{Comma, Tab}
use Rattle.csv_rows.specs.declared.Fault.TheVariants.{QuoteInside, TooLong}
use Rattle.csv_rows.specs.declared.RowRead.TheVariants.{Row, Faulty, Endless, More as MoreRows, Nothing}
use Rattle.csv_rows.specs.declared.Skipped.TheVariants.{Ended, On, Wait as Unknown, Over as NoMore}
use Rattle.csv_rows.specs.Reader.{is_stop, is_special, is, up_to, inner_len, return_of, stop_of, closed, plain_by, quoted_by, cell_of, line_by, line_from, line}
use Rattle.csv_rows.specs.Answers.{window, is_cut, is_over, place_of, end_len, counted, row_by, refused, answer_by, answer_of, line_of, answer, numbers, listed, table_after}
use Rattle.csv_rows.specs.Texts.{own_bytes, undoubled}
use Rattle.csv_rows.specs.Bytes.{one_if, feeds, utf8_from, utf8_end}
use Rattle.csv_rows.proofs.Whole.{accepted}
use Rattle.verdicts.specs.declared.Verdict.{Verdict}
use Rattle.verdicts.specs.declared.Verdict.TheVariants.{NoDate, Full, NotStrict, ShortYear, Unread, Refused}
use Rattle.verdicts.specs.Dates.{by_readers, date_verdict}
use Rattle.verdicts.specs.Fields.{some_given, day_alone, is_unread, given_verdict, six_verdict}
use Rattle.headers.specs.declared.RowFault.TheVariants.{Cells, BadUtf8, LongCell}
use Rattle.findings.specs.Escapes.{is_hidden, is_marked, shown_byte, escaped, quoted}
use Rattle.findings.specs.Words.{capped, kind_words, place_words, refusal_words, is_said, sort, message, fault_words, row_words}
use Rattle.findings.specs.Lines.{finding, verdict_line, column_name, date_line, named_cell, still_first, six_text, six_line, bad_row_line, signing, summary, unusable_words, unread_line}
use Rattle.headers.specs.declared.Columns.{Columns}
use Rattle.headers.specs.Names.{is_space, spaces, starts_so, is_name}
use Rattle.headers.specs.Columns.{column_from, column_of, columns_of, one, six_columns, checked, known, again, twice_date, twice_six, twice, chosen}
use Rattle.headers.specs.Header.{own_of, row_cells, names_in, names_by, with_cells, with_row, header_in, header_by, on_names, header_row, mark_len, header_behind, header}
use Rattle.sheets.specs.declared.Phase.TheVariants.{Start, Rows, Skipping}
use Rattle.sheets.specs.declared.Tally.{Tally}
use Rattle.sheets.specs.declared.State.{State}
use Rattle.sheets.specs.declared.Taken.TheVariants.{More, NoRoom, Took, Over}
use Rattle.sheets.specs.Tallies.{one_strict, one_otherwise, one_refused, one_row, one_bad, one_date}
use Rattle.sheets.specs.Rows.{key_column, long_six, any_long, checked_row, windowed_if, date_said, dates_said, dates_counted, six_of, six_said, lines_by, row_said, row_counted, checked_said, checked_counted}
use Rattle.sheets.specs.Steps.{behind, start_step, row_step, skip_step, step_in, next, fresh}
use Rattle.sheets.specs.Reports.{said, answered, answer_with, out_after, table_in, table_with, report}
use Rattle.sheets.specs.Parts.{RowsOf, Together, AllTogether}
use Rattle.sheets.specs.Parts.RowsOf.{no_row, a_row, a_bad}
use Rattle.sheets.specs.Parts.PartsOf.{last_part, rows_part}
use Rattle.sheets.proofs.Parts.{reports-add}
use Rattle.sheets.proofs.AllParts.{all-reports-add}

-- ---- counts

abbrev tally : ℕ → ℕ → ℕ → ℕ → ℕ → Tally
tally rows strict otherwise refused bad = record { rows = rows; strict = strict; otherwise = otherwise; refused = refused; bad = bad }

-- a Date, of whichever is said that it is not strict
abbrev some_date : DateOf
some_date = date (At (datetime (pos 2000) None None None)) false false

abbrev verdicts : List Verdict
verdicts = NoDate ∷ Full ∷ NotStrict some_date ∷ ShortYear some_date ∷ Unread ∷ Refused (nowhere InvalidFormat) ∷ []

-- of each verdict, from ten, twenty, thirty, forty and fifty on
pub dates-counted : map (λ (v : Verdict). one_date (tally 10 20 30 40 50) v) verdicts ≡ tally 10 20 30 40 50 ∷ tally 10 21 30 40 50 ∷ tally 10 20 31 40 50 ∷ tally 10 20 31 40 50 ∷ tally 10 20 30 41 50 ∷ tally 10 20 30 41 50 ∷ []
unfolding one_date one_strict one_otherwise one_refused capped pick
dates-counted = refl

pub rows-counted : (one_row (tally 10 20 30 40 50) ≡ tally 11 20 30 40 50) × (one_bad (tally 10 20 30 40 50) ≡ tally 11 20 30 40 51)
unfolding one_row one_bad capped pick
rows-counted = (refl, refl)

-- numbers stay at the largest
abbrev most : ℕ
most = 4294967295

pub most-counted : (one_bad (tally most most most most most) ≡ tally most most most most most) × (one_date (tally most most most most most) Full ≡ tally most most most most most)
unfolding one_date one_strict one_bad capped pick
most-counted = (refl, refl)

-- ---- whether a row can be used

-- the key, then the ten columns that are checked
abbrev all : Columns
all =
    record {
      date = 1;
      origdate = 2;
      eventdate = 3;
      urldate = 4;
      year = 5;
      month = 6;
      day = 7;
      endyear = 8;
      endmonth = 9;
      endday = 10;
      key = 0;
      id = 256;
    }

-- a date and a key, the last of 256 columns
abbrev few : Columns
few =
    record {
      date = 0;
      origdate = 256;
      eventdate = 256;
      urldate = 256;
      year = 256;
      month = 256;
      day = 256;
      endyear = 256;
      endmonth = 256;
      endday = 256;
      key = 255;
      id = 1;
    }

-- none
abbrev none : Columns
none =
    record {
      date = 256;
      origdate = 256;
      eventdate = 256;
      urldate = 256;
      year = 256;
      month = 256;
      day = 256;
      endyear = 256;
      endmonth = 256;
      endday = 256;
      key = 256;
      id = 7;
    }

pub keys : (key_column all ≡ 0) × (key_column few ≡ 255) × (key_column none ≡ 7)
unfolding key_column pick
keys = (refl, refl, refl)

-- so many bytes
abbrev bytes : ℕ → List ℕ
bytes zero = []
bytes (suc n) = 48 ∷ bytes n

-- so many empty cells before one
abbrev behind_cells : ℕ → List ℕ → List (List ℕ)
behind_cells zero cell = cell ∷ []
behind_cells (suc n) cell = [] ∷ behind_cells n cell

-- a cell of 4,096 bytes is read, and of one more no row is; but where it is not looked at it may be so long
pub long-cells : (checked_row few 1 [] 0 1 (bytes 4096 ∷ []) ≡ Ok tt) × (checked_row few 1 [] 0 1 (bytes 4097 ∷ []) ≡ Err LongCell) × (checked_row few 2 [] 0 2 ([] ∷ bytes 4097 ∷ []) ≡ Ok tt)
unfolding checked_row any_long long_six key_column utf8_end utf8_from pick
long-cells = (refl, refl, refl)

-- each of the eleven columns is looked at
pub all-looked-at : map (λ (k : ℕ). any_long all (behind_cells k (bytes 4097))) (0 ∷ 1 ∷ 2 ∷ 3 ∷ 4 ∷ 5 ∷ 6 ∷ 7 ∷ 8 ∷ 9 ∷ 10 ∷ 11 ∷ []) ≡ true ∷ true ∷ true ∷ true ∷ true ∷ true ∷ true ∷ true ∷ true ∷ true ∷ true ∷ false ∷ []
unfolding any_long long_six key_column pick
all-looked-at = refl

-- too few cells, too many, and bytes that are not UTF-8: the place is counted from the row's start, and what is behind the row is not looked at
pub bad-rows : (checked_row few 3 (ascii "a,b") 3 2 (ascii "a" ∷ ascii "b" ∷ []) ≡ Err (Cells 2 3)) × (checked_row few 1 (ascii "a,b") 3 2 (ascii "a" ∷ ascii "b" ∷ []) ≡ Err (Cells 2 1)) × (checked_row few 2 (ascii "a," ++ 0xC3 ∷ 10 ∷ []) 4 2 (ascii "a" ∷ (0xC3 ∷ []) ∷ []) ≡ Err (BadUtf8 2)) × (checked_row few 1 (ascii "a\n" ++ 0xC3 ∷ []) 2 1 (ascii "a" ∷ []) ≡ Ok tt)
unfolding checked_row any_long long_six key_column utf8_end utf8_from first decode decode2 decode3 decode4 len_of is_cont is_surrogate len_d pick
bad-rows = (refl, refl, refl, refl)

-- ---- what is said of a row

-- a character that no date has: U+20AC
abbrev euro : List ℕ
euro = 0xE2 ∷ 0x82 ∷ 0xAC ∷ []

-- a key with a quote in it, the four columns of dates, and six cells, of which a day has no month
abbrev row : List (List ℕ)
row = ascii "k\"\"1" ∷ euro ∷ euro ∷ euro ∷ euro ∷ ascii "1749" ∷ [] ∷ ascii "4" ∷ [] ∷ [] ∷ [] ∷ []

pub row-said : row_said 5 all row ≡ (ascii "5\tk\\\"1\tdate\t\"" ++ euro ++ ascii "\"\trefused\ta character that no date has, at 0..3\n") ++ (ascii "5\tk\\\"1\torigdate\t\"" ++ euro ++ ascii "\"\trefused\ta character that no date has, at 0..3\n") ++ (ascii "5\tk\\\"1\teventdate\t\"" ++ euro ++ ascii "\"\trefused\ta character that no date has, at 0..3\n") ++ (ascii "5\tk\\\"1\turldate\t\"" ++ euro ++ ascii "\"\trefused\ta character that no date has, at 0..3\n") ++ ascii "5\tk\\\"1\tyear\tyear \"1749\", day \"4\"\trefused\ta part is not read: a day needs its month, an end its year\n"
unfolding row_said lines_by dates_said date_said windowed_if six_said six_of key_column undoubled date_verdict by_readers parsed parsed_strict on_clean list_checked fault_of or_else fault_in characters chars_up_to and_then fits is_short lengths kinds_known chunks_of is_admitted within six_verdict given_verdict is_unread day_alone some_given date_line six_line six_text named_cell still_first verdict_line column_name finding sort message is_said refusal_words kind_words place_words capped quoted escaped shown_byte is_hidden is_marked refusal decimal width digit_count count first decode_at decode decode2 decode3 decode4 len_of is_cont is_surrogate len_d pick
row-said = refl

pub row-counted : row_counted all row (tally 1 0 0 0 0) ≡ tally 1 0 0 5 0
unfolding row_counted dates_counted six_of undoubled date_verdict by_readers parsed parsed_strict on_clean list_checked fault_of or_else fault_in characters chars_up_to and_then fits is_short lengths kinds_known chunks_of is_admitted within six_verdict given_verdict is_unread day_alone some_given one_date one_refused capped refusal first decode_at decode decode2 decode3 decode4 len_of is_cont is_surrogate len_d pick
row-counted = refl

-- of a row whose cells are empty nothing is said or counted but the row
pub row-empty : (checked_said 5 all (behind_cells 10 []) (Ok tt) ≡ []) × (checked_counted all (behind_cells 10 []) (Ok tt) (tally 1 2 3 4 5) ≡ tally 2 2 3 4 5)
unfolding checked_said checked_counted row_said lines_by dates_said date_said windowed_if six_said six_of key_column undoubled row_counted dates_counted date_verdict six_verdict some_given date_line six_line verdict_line is_said one_date one_row capped pick
row-empty = (refl, refl)

pub row-bad : (checked_said 5 few [] (Err LongCell) ≡ ascii "5\t\t\t\tbad row\ta cell of more than 4,096 bytes\n") × (checked_counted few [] (Err LongCell) (tally 1 2 3 4 5) ≡ tally 2 2 3 4 6)
unfolding checked_said checked_counted bad_row_line finding row_words escaped decimal width digit_count count one_bad capped pick
row-bad = (refl, refl)

-- ---- steps

abbrev kept : ℕ → Tally → State
kept at t = record { phase = Rows; separator = Tab; columns = few; cells = 2; line = at; tally = t }

abbrev skipping : ℕ → Tally → State
skipping at t = record { phase = Skipping; separator = Tab; columns = few; cells = 2; line = at; tally = t }

-- a row on two lines, of which nothing is said; what is none; a block that ends before a row does; the file's end
pub row-steps : (row_step (kept 7 (tally 1 2 3 4 5)) (ascii "\t\"x\ny\"\nz") (Row 7 2) ([] ∷ ascii "x\ny" ∷ []) ≡ took 7 [] (kept 9 (tally 2 2 3 4 5))) × (row_step (kept 7 (tally 1 2 3 4 5)) (ascii "a\"\nx") (Faulty 3 (QuoteInside 1)) [] ≡ took 3 (ascii "7\t\t\t\tbad row\ta quote in a cell that has none around it, at 1\n") (kept 8 (tally 2 2 3 4 6))) × (row_step (kept 7 (tally 1 2 3 4 5)) [] MoreRows [] ≡ wait) × (row_step (kept 7 (tally 1 2 3 4 5)) [] Nothing [] ≡ over (ascii "rows 1, dates 9, strict 2, read otherwise 3, refused 4, bad rows 5\ndo not sign: 12 findings\n"))
unfolding row_step behind checked_row checked_said checked_counted any_long long_six row_said lines_by dates_said date_said windowed_if six_said six_of key_column undoubled row_counted dates_counted date_verdict six_verdict some_given date_line six_line verdict_line is_said one_date one_row one_bad bad_row_line finding row_words fault_words summary signing escaped decimal width digit_count count feeds one_if utf8_end utf8_from first decode decode2 decode3 decode4 len_of is_cont is_surrogate len_d capped pick
row-steps = (refl, refl, refl, refl)

-- a line is skipped to its end; its end is not in the block; the file's end
pub skip_steps : (skip_step (skipping 7 (tally 1 2 3 4 5)) (ascii "ab\nc") (Ended 3) ≡ took 3 [] (kept 8 (tally 1 2 3 4 5))) × (skip_step (skipping 7 (tally 1 2 3 4 5)) [] Unknown ≡ wait) × (skip_step (skipping 7 (tally 1 0 0 0 0)) [] NoMore ≡ over (ascii "rows 1, dates 0, strict 0, read otherwise 0, refused 0, bad rows 0\nsafe to sign\n"))
unfolding skip_step behind summary signing decimal width digit_count count feeds one_if capped pick
skip_steps = (refl, refl, refl)

-- of a line that does not end within them 65,536 bytes are taken, and the line feeds among them are counted
module _ (u v : List ℕ) (e : length u ≡ 65536) where
  all-of-them : take 65536 (u ++ v) ≡ u
  all-of-them = subst (λ (n : ℕ). take n (u ++ v) ≡ u) e (take-append_seam u v)

  pub endless : row_step (kept 7 (tally 1 2 3 4 5)) (u ++ v) (Endless (TooLong 3)) [] ≡ took 65536 (ascii "7\t\t\t\tbad row\tlonger than 65,536 bytes, its last cell from 3 on\n") (skipping (capped (7 + feeds u)) (tally 2 2 3 4 6))
  unfolding row_step behind bad_row_line finding row_words fault_words escaped decimal width digit_count count one_bad capped pick
  endless = rw all-of-them

  pub skips_on : skip_step (skipping 7 (tally 1 2 3 4 5)) (u ++ v) On ≡ took 65536 [] (skipping (capped (7 + feeds u)) (tally 1 2 3 4 5))
  unfolding skip_step behind
  skips_on = rw all-of-them

-- the state at the start of a file: no column, no cell, the first line, nothing counted
pub fresh-is : fresh ≡ record { phase = Start; separator = Comma; columns = record { date = 256; origdate = 256; eventdate = 256; urldate = 256; year = 256; month = 256; day = 256; endyear = 256; endmonth = 256; endday = 256; key = 256; id = 256 }; cells = 0; line = 1; tally = tally 0 0 0 0 0 }
unfolding fresh
fresh-is = refl

-- ---- what is answered, and what is lent

-- 262,144 bytes are room enough, and one less are none, whatever is said
pub rooms : (answer_with 262144 (took 3 (ascii "ab") fresh) ≡ Took 3 2 fresh) × (answer_with 262144 (over (ascii "ab")) ≡ Over 2) × (answer_with 262144 wait ≡ More) × (answer_with 262143 wait ≡ NoRoom)
unfolding answer_with answered pick
rooms = (refl, refl, refl, refl)

pub room-left : (out : List ℕ) → length out ≡ 262144 → out_after out (over (ascii "ab")) ≡ 97 ∷ 98 ∷ drop 2 out
unfolding out_after said pick
room-left out e = rw e

pub no-room-left : (out : List ℕ) → length out ≡ 262143 → out_after out (over (ascii "ab")) ≡ out
unfolding out_after said pick
no-room-left out e = rw e

-- the table has the places of the cells behind a step over rows, if there was room for it
pub tables : (table_with 262144 (kept 1 (tally 0 0 0 0 0)) true (ascii "a\tbc") (7 ∷ 7 ∷ 7 ∷ 7 ∷ 7 ∷ []) ≡ 0 ∷ 1 ∷ 2 ∷ 4 ∷ 7 ∷ []) × (table_with 262143 (kept 1 (tally 0 0 0 0 0)) true (ascii "a\tbc") (7 ∷ 7 ∷ 7 ∷ 7 ∷ 7 ∷ []) ≡ 7 ∷ 7 ∷ 7 ∷ 7 ∷ 7 ∷ []) × (table_with 262144 (skipping 1 (tally 0 0 0 0 0)) true (ascii "a\tbc") (7 ∷ 7 ∷ []) ≡ 7 ∷ 7 ∷ []) × (table_with 262144 fresh true (ascii "a\tbc") (7 ∷ 7 ∷ []) ≡ 7 ∷ 7 ∷ [])
unfolding table_with table_in fresh is_stop is_special is up_to inner_len return_of stop_of closed plain_by quoted_by cell_of line_by line_from line window is_cut is_over numbers listed line_of table_after pick
tables = (refl, refl, refl, refl)

-- ---- reports

pub report-empty : report [] ≡ ascii "could not be read: the file is empty\n"
unfolding report report_on report_by told next step_in fresh start_step header header_behind header_row on_names header_by header_in names_by names_in row_cells own_of mark_len chosen unread_line unusable_words is_stop is_special is up_to inner_len return_of stop_of closed plain_by quoted_by cell_of line_by line_from line window is_cut is_over place_of end_len counted row_by refused answer_by answer_of line_of answer pick
report-empty = refl

-- two rows: of the first nothing is said, and one finding of the second
pub report-two : report (ascii "key,year,day\na,,\nb,1749,4\n") ≡ ascii "3\tb\tyear\tyear \"1749\", day \"4\"\trefused\ta part is not read: a day needs its month, an end its year\nrows 2, dates 1, strict 0, read otherwise 0, refused 1, bad rows 0\ndo not sign: 1 finding\n"
unfolding report report_on report_by told next step_in fresh start_step row_step behind checked_row checked_said checked_counted any_long long_six row_said lines_by dates_said date_said windowed_if six_said six_of key_column undoubled row_counted dates_counted date_verdict six_verdict given_verdict is_unread day_alone some_given date_line six_line six_text named_cell still_first verdict_line column_name finding sort message is_said one_date one_row one_refused summary signing quoted escaped shown_byte is_hidden is_marked decimal width digit_count count feeds one_if capped header header_behind header_row on_names header_by header_in with_row with_cells names_by names_in row_cells own_of mark_len twice twice_date twice_six again known checked six_columns one chosen columns_of column_of column_from is_name starts_so spaces is_space lower own_bytes utf8_end utf8_from first decode decode2 decode3 decode4 len_of is_cont is_surrogate len_d is_stop is_special is up_to inner_len return_of stop_of closed plain_by quoted_by cell_of line_by line_from line window is_cut is_over place_of end_len counted row_by refused answer_by answer_of line_of answer pick
report-two = refl

-- ---- parts

abbrev keyed : State
keyed = record { phase = Rows; separator = Comma; columns = record { date = 1; origdate = 256; eventdate = 256; urldate = 256; year = 256; month = 256; day = 256; endyear = 256; endmonth = 256; endday = 256; key = 0; id = 256 }; cells = 2; line = 2; tally = tally 0 0 0 0 0 }

-- a header is known before anything follows
pub header-known : next false (ascii "key,date\n") fresh ≡ took 9 [] keyed
unfolding next step_in fresh start_step feeds one_if capped header header_behind header_row on_names header_by header_in with_row with_cells names_by names_in row_cells own_of mark_len twice twice_date twice_six again known checked six_columns one chosen columns_of column_of column_from is_name starts_so spaces is_space lower undoubled own_bytes utf8_end utf8_from first decode decode2 decode3 decode4 len_of is_cont is_surrogate len_d is_stop is_special is up_to inner_len return_of stop_of closed plain_by quoted_by cell_of line_by line_from line window is_cut is_over place_of end_len counted row_by refused answer_by answer_of line_of answer pick
header-known = refl

-- a row on two lines, and a bad row
pub rows-known : RowsOf Comma (ascii "c,\n") (ascii "a,\"x\ny\"\nb\"\n")
unfolding is_stop is_special is up_to inner_len return_of stop_of closed plain_by quoted_by cell_of line_by line_from line window is_cut is_over place_of end_len counted row_by refused answer_by answer_of line_of answer pick
rows-known =
    a_row (ascii "a,\"x\ny\"\n") (ascii "b\"\n") ((accepted Comma (ascii "a,\"x\ny\"\nb\"\nc,\n") 8 2).0 refl)
    (a_bad (ascii "b\"\n") [] {f = QuoteInside 1} refl no_row)

-- so a file is cut behind them
pub cut-behind : Together (ascii "key,date\na,\"x\ny\"\nb\"\n") (ascii "key,date\nc,\n") (ascii "key,date\na,\"x\ny\"\nb\"\nc,\n")
cut-behind = reports-add (ascii "key,date\n") header-known (ascii "a,\"x\ny\"\nb\"\n") (ascii "c,\n") (omega arith) rows-known

-- and into three parts
pub cut_twice : AllTogether (ascii "key,date\n") (ascii "a,\"x\ny\"\n" ∷ ascii "b\"\n" ∷ ascii "c,\n" ∷ [])
unfolding is_stop is_special is up_to inner_len return_of stop_of closed plain_by quoted_by cell_of line_by line_from line window is_cut is_over place_of end_len counted row_by refused answer_by answer_of line_of answer pick
cut_twice =
    all-reports-add (ascii "key,date\n") header-known
    (rows_part (a_row (ascii "a,\"x\ny\"\n") [] ((accepted Comma (ascii "a,\"x\ny\"\nb\"\nc,\n") 8 2).0 refl) no_row) (omega arith)
    (rows_part (a_bad (ascii "b\"\n") [] {f = QuoteInside 1} refl no_row) (omega arith) (last_part (ascii "c,\n"))))
