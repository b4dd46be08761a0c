-- The numbers at the end of a report are those of its findings. Assumes nothing.
use mathlib.Core.Path.{◌≡◌, refl, sym, ◌∙◌}
use mathlib.Core.Bool.{Bool, true, false}
use mathlib.Core.List.{List, [], ◌++◌, append_assoc}
use Prim.Native.Nat.{ℕ, ◌+◌, ◌<◌}
use native.Mathlib.Omega.{arith}
use Rattle.chars.specs.Pick.{pick}
use Rattle.chars.specs.Ascii.{ascii}
use Rattle.runs.specs.Steps.{Outcome}
use Rattle.runs.specs.Steps.Outcome.{wait, took, over}
use Rattle.runs.specs.Pieces.{Piece, all_texts, Reading}
use Rattle.runs.specs.Pieces.Reading.{ends, piece}
use Rattle.csv_rows.specs.declared.RowRead.{RowRead}
use Rattle.csv_rows.specs.declared.RowRead.TheVariants.{Row, Faulty, Endless, More, Nothing}
use Rattle.csv_rows.specs.declared.Skipped.{Skipped}
use Rattle.csv_rows.specs.declared.Skipped.TheVariants.{Ended, On, Wait as Unknown, Over as NoMore}
use Rattle.csv_rows.specs.Reader.{byte_of}
use Rattle.csv_rows.specs.Answers.{answer, skipped}
use Rattle.verdicts.specs.declared.Verdict.{Verdict}
use Rattle.verdicts.specs.declared.Verdict.TheVariants.{NoDate, Full, NotStrict, ShortYear, Unread, Refused}
use Rattle.verdicts.specs.Dates.{date_verdict}
use Rattle.findings.specs.declared.Column.{Column}
use Rattle.findings.specs.declared.Column.TheVariants.{Date, Origdate, Eventdate, Urldate}
use Rattle.headers.specs.declared.RowFault.{RowFault}
use Rattle.headers.specs.declared.RowFault.TheVariants.{Broken}
use Rattle.findings.specs.Lines.{bad_row_line}
use Rattle.findings.specs.Words.{is_said, sort}
use Rattle.findings.specs.Sorts.{is_same}
use Rattle.findings.proofs.Shape.{occurs, occurs-append, date-unsaid, six-unsaid}
use Rattle.findings.proofs.Sorts.{OfSort, sort-counts, sort-feeds, date-sort, six-sort, bad-row-sort}
use Rattle.headers.specs.declared.Columns.{Columns}
use Rattle.headers.specs.declared.Header.{Header}
use Rattle.headers.specs.declared.Header.TheVariants.{Wait, Without, With}
use Rattle.headers.specs.Header.{header, row_cells}
use Rattle.sheets.specs.declared.Phase.{Phase}
use Rattle.sheets.specs.declared.Phase.TheVariants.{Start, Rows, Skipping}
use Rattle.sheets.specs.declared.Tally.{Tally}
use Rattle.sheets.specs.declared.State.{State}
use Rattle.std.specs.Prelude.{Result, Ok, Err}
use Rattle.sheets.specs.Tallies.{one_strict, one_row, one_bad, one_date}
use Rattle.sheets.specs.Rows.{text_at, key_column, checked_row, windowed_if, date_said, dates_said, dates_counted, six_of, six_said, lines_by, row_said, row_counted, checked_said, checked_counted}
use Rattle.sheets.specs.Steps.{behind, no_tally, start_step, row_step, skip_step, step_in, next, fresh}
use Rattle.sheets.specs.Sorts.{otherwise_lines, refused_lines, bad_lines}
use Rattle.sheets.proofs.Amounts.{capped_is, Raised, Counts, together, Amount, none-counts, both-counts, strict-amount, otherwise-amount, refused-amount, row-amount, bad-amount, raised_by}

-- the counts of findings are below the largest number, at which they would stay
pub record Below (t : Tally) : Type 0 where
  pub few_otherwise : t.otherwise < 4294967295
  pub few_refused : t.refused < 4294967295
  pub few_bad : t.bad < 4294967295

-- how many findings are counted
abbrev pub found : Tally → ℕ
found t = t.otherwise + t.refused + t.bad

-- a text says what is counted: it has as many lines of each sort, whatever follows, and no others
pub record Says (text : List ℕ) (k : Tally) : Type 0 where
  pub says_otherwise : (rest : List ℕ) → otherwise_lines (text ++ rest) ≡ k.otherwise + otherwise_lines rest
  pub says_refused : (rest : List ℕ) → refused_lines (text ++ rest) ≡ k.refused + refused_lines rest
  pub says_bad : (rest : List ℕ) → bad_lines (text ++ rest) ≡ k.bad + bad_lines rest
  pub says_lines : occurs 10 text ≡ found k
  pub says_none : found k ≡ 0 → text ≡ []

none-says : (k : Tally) → k.otherwise ≡ 0 → k.refused ≡ 0 → k.bad ≡ 0 → Says [] k
unfolding occurs
none-says k a b c =
    record {
      says_otherwise = λ rest. omega arith;
      says_refused = λ rest. omega arith;
      says_bad = λ rest. omega arith;
      says_lines = omega arith;
      says_none = λ e. refl;
    }

-- a line of a sort that is counted
sort-says : {kind text : List ℕ} (o : OfSort kind text) (k : Tally) → pick (is_same (ascii "not strict") kind) 1 0 + pick (is_same (ascii "short year") kind) 1 0 ≡ k.otherwise
    → pick (is_same (ascii "refused") kind) 1 0 ≡ k.refused → pick (is_same (ascii "bad row") kind) 1 0 ≡ k.bad → found k ≡ 1 → Says text k
sort-says o k a b c d =
    record {
      says_otherwise = λ rest. omega (arith, sort-counts o (ascii "not strict") rest, sort-counts o (ascii "short year") rest);
      says_refused = λ rest. omega (arith, sort-counts o (ascii "refused") rest);
      says_bad = λ rest. omega (arith, sort-counts o (ascii "bad row") rest);
      says_lines = sort-feeds o ∙ sym d;
      says_none = λ e. absurd (omega arith);
    }

both_say : {s u : List ℕ} {k m : Tally} → Says s k → Says u m → Says (s ++ u) (together k m)
both_say {s} {u} a b =
    record {
      says_otherwise = λ rest. rw (append_assoc s u rest) (omega (arith, a.says_otherwise (u ++ rest), b.says_otherwise rest));
      says_refused = λ rest. rw (append_assoc s u rest) (omega (arith, a.says_refused (u ++ rest), b.says_refused rest));
      says_bad = λ rest. rw (append_assoc s u rest) (omega (arith, a.says_bad (u ++ rest), b.says_bad rest));
      says_lines = omega (arith, occurs-append 10 s u, a.says_lines, b.says_lines);
      says_none = λ e. rw (a.says_none (omega arith), b.says_none (omega arith));
    }

-- from one tally to another as much is counted as a text says
pub record Tells (text : List ℕ) (t t' : Tally) : Type 0 where
  pub much : Tally
  pub counts : Counts much t t'
  pub said : Says text much

-- a change of the tally that adds what a text says
amount-told : {f : Tally → Tally} {text : List ℕ} (a : Amount f) → Says text a.much → (t : Tally) → Tells text t (f t)
amount-told a s t = record { much = a.much; counts = a.counts t; said = s }

-- texts one behind the other
then-told : {s u : List ℕ} {t t' t'' : Tally} → Tells s t t' → Tells u t' t'' → Tells (s ++ u) t t''
then-told a b = record { much = together a.much b.much; counts = both-counts a.counts b.counts; said = both_say a.said b.said }

none_told : (t : Tally) → Tells [] t t
none_told t = record { much = no_tally; counts = none-counts t; said = none-says no_tally refl refl refl }

strict-told : (t : Tally) → Tells [] t (one_strict t)
unfolding strict-amount
strict-told t = amount-told strict-amount (none-says strict-amount.much refl refl refl) t

counted-told : (t : Tally) → Tells [] t (one_row t)
unfolding row-amount
counted-told t = amount-told row-amount (none-says row-amount.much refl refl refl) t

bad-told : (line : ℕ) (f : RowFault) (t : Tally) → Tells (bad_row_line line f) t (one_bad t)
unfolding bad-amount is_same pick
bad-told line f t = amount-told bad-amount (sort-says (bad-row-sort line f) bad-amount.much refl refl refl refl) t

-- a line where something is said, else none
line-told : (text : List ℕ) (v : Verdict) (t : Tally) → (is_said v ≡ true → OfSort (sort v) text) → (is_said v ≡ false → text ≡ []) → Tells text t (one_date t v)
unfolding one_date is_said sort otherwise-amount refused-amount is_same pick
line-told text NoDate t f g = rw (g refl) (none_told t)
line-told text Full t f g = rw (g refl) (strict-told t)
line-told text (NotStrict d) t f g = amount-told otherwise-amount (sort-says (f refl) otherwise-amount.much refl refl refl refl) t
line-told text (ShortYear d) t f g = amount-told otherwise-amount (sort-says (f refl) otherwise-amount.much refl refl refl refl) t
line-told text Unread t f g = amount-told refused-amount (sort-says (f refl) refused-amount.much refl refl refl refl) t
line-told text (Refused e) t f g = amount-told refused-amount (sort-says (f refl) refused-amount.much refl refl refl refl) t

date-told : (line : ℕ) (key : List ℕ) (column : Column) (cell : List ℕ) (t : Tally) → Tells (date_said line key column cell) t (one_date t (date_verdict cell))
unfolding date_said
date-told line key column cell t =
    let v = date_verdict cell in
    line-told (date_said line key column cell) v t (λ q. date-sort line key column cell v (windowed_if v cell) q) (λ q. date-unsaid line key column cell v (windowed_if v cell) q)

module _ (line : ℕ) (c : Columns) (cs : List (List ℕ)) where
  dates-told : (key : List ℕ) (t : Tally) → Tells (dates_said line key c cs) t (dates_counted c cs t)
  unfolding dates_said dates_counted
  dates-told key t =
      then-told
      (then-told (then-told (date-told line key Date (text_at cs c.date) t) (date-told line key Origdate (text_at cs c.origdate) _)) (date-told line key Eventdate (text_at cs c.eventdate) _))
      (date-told line key Urldate (text_at cs c.urldate) _)

  six-told : (key : List ℕ) (t : Tally) → Tells (six_said line key c cs) t (one_date t (six_of c cs))
  unfolding six_said
  six-told key t =
      line-told (six_said line key c cs) (six_of c cs) t
      (λ q. six-sort line key (text_at cs c.year) (text_at cs c.month) (text_at cs c.day) (text_at cs c.endyear) (text_at cs c.endmonth) (text_at cs c.endday) (six_of c cs) q)
      (λ q. six-unsaid line key (text_at cs c.year) (text_at cs c.month) (text_at cs c.day) (text_at cs c.endyear) (text_at cs c.endmonth) (text_at cs c.endday) (six_of c cs) q)

  row_told : (t : Tally) → Tells (row_said line c cs) t (row_counted c cs t)
  unfolding row_said lines_by row_counted
  row_told t = then-told (dates-told (text_at cs (key_column c)) t) (six-told (text_at cs (key_column c)) (dates_counted c cs t))

  checked-told : (k : Result (Unit {0}) RowFault) (t : Tally) → Tells (checked_said line c cs k) t (checked_counted c cs k t)
  unfolding checked_said checked_counted
  checked-told (Ok tt) t = then-told {s = []} (counted-told t) (row_told (one_row t))
  checked-told (Err f) t = bad-told line f t

-- an outcome counts the lines that it says
data Told (t : Tally) : Outcome State → Type 0 where
  waits : Told t wait
  takes : {n : ℕ} {text : List ℕ} {kept : State} → Tells text t kept.tally → Told t (took n text kept)
  is_over : {text : List ℕ} → Told t (over text)

module _ (st : State) (s : List ℕ) where
  start-told : (h : Header) → Told st.tally (start_step st s h)
  unfolding start_step
  start-told Wait = waits
  start-told (Without why) = is_over
  start-told (With bytes sep columns cells) = takes (none_told st.tally)

  fault-told : (r : RowRead) (cs : List (List ℕ)) → Told st.tally (row_step st s r cs)
  unfolding row_step behind
  fault-told (Row end count) cs = takes (checked-told st.line st.columns cs (checked_row st.columns st.cells s end count cs) st.tally)
  fault-told (Faulty end f) cs = takes (bad-told st.line (Broken f) st.tally)
  fault-told (Endless f) cs = takes (bad-told st.line (Broken f) st.tally)
  fault-told More cs = waits
  fault-told Nothing cs = is_over

  skip-told : (r : Skipped) → Told st.tally (skip_step st s r)
  unfolding skip_step behind
  skip-told (Ended n) = takes (none_told st.tally)
  skip-told On = takes (none_told st.tally)
  skip-told Unknown = waits
  skip-told NoMore = is_over

  step-told : (last : Bool) (p : Phase) → Told st.tally (step_in p last s st)
  unfolding step_in
  step-told last Start = start-told (header last s)
  step-told last Rows = fault-told (answer (byte_of st.separator) last s) (row_cells st.separator last s)
  step-told last Skipping = skip-told (skipped last s)

took-told : {t : Tally} {n : ℕ} {text : List ℕ} {kept : State} → Told t (took n text kept) → Tells text t kept.tally
took-told (takes a) = a

next-told : (last : Bool) (s : List ℕ) (st : State) {n : ℕ} {text : List ℕ} {kept : State} → next last s st ≡ took n text kept → Tells text st.tally kept.tally
unfolding next
next-told last s st e = took-told (rw e at (step-told st s last st.phase))

-- of a file's pieces as much is said as is counted
pub lines-added : {st at : State} {s left lastly : List ℕ} {ps : List (Piece State)} → Reading next st s ps at left lastly → Tells (all_texts ps) st.tally at.tally
lines-added (ends {st} e) = none_told st.tally
lines-added (piece {st} {s} e r) = then-told (next-told true s st e) (lines-added r)

module _ {at : State} {s left lastly : List ℕ} {ps : List (Piece State)} (r : Reading next fresh s ps at left lastly) where
  -- so a file has as many findings as the numbers at its end say
  pub lines-found : Below at.tally → occurs 10 (all_texts ps) ≡ found at.tally
  unfolding fresh
  lines-found b =
      let a = lines-added r in
      let c = a.counts in
      omega (arith, a.said.says_lines, raised_by c.in_otherwise b.few_otherwise, raised_by c.in_refused b.few_refused, raised_by c.in_bad b.few_bad)

  -- where they say none, nothing is said
  pub lines_none : found at.tally ≡ 0 → all_texts ps ≡ []
  lines_none z =
      let a = (lines-added r).said in
      let b : Below at.tally = record { few_otherwise = omega arith; few_refused = omega arith; few_bad = omega arith } in
      a.says_none (sym a.says_lines ∙ lines-found b ∙ z)

  none-counted : {k n : ℕ} → Raised k 0 n → k ≡ 0 → n ≡ 0
  none-counted {k} {n} a e = omega (arith, a.sum, capped_is n, capped_is (0 + k))

  -- and where no line is said they say none
  pub silent-none : occurs 10 (all_texts ps) ≡ 0 → found at.tally ≡ 0
  unfolding fresh
  silent-none e =
      let a = lines-added r in
      let l = a.said.says_lines in
      let c = a.counts in
      omega (arith, none-counted c.in_otherwise (omega arith), none-counted c.in_refused (omega arith), none-counted c.in_bad (omega arith))
