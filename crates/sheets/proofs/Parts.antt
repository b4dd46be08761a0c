-- A file that is cut at row ends counts what its parts count together, each part with the header again. Assumes nothing.
use mathlib.Core.Path.{◌≡◌, refl, sym, ap, ◌∙◌, subst}
use mathlib.Core.Bool.{Bool, true, false}
use mathlib.Core.List.{List, [], ◌∷◌, ◌++◌, append_assoc, append-nil}
use Prim.Native.Nat.{ℕ, ◌+◌, ◌≤◌, ◌<◌}
use native.Mathlib.Omega.{arith}
use lib.Dec.{eqb, leb}
use lib.ListN.{length, take, drop, length-append}
use lib.Seq.{drop-append-le, drop-append_seam, take-append_seam}
use Rattle.chars.specs.Pick.{pick}
use Rattle.chars.proofs.Cases.{of_test}
use Rattle.runs.specs.Steps.{Outcome}
use Rattle.runs.specs.Steps.Outcome.{wait, took, over}
use Rattle.runs.specs.Pieces.{Piece, all_texts, Reading}
use Rattle.runs.specs.Pieces.Reading.{ends, piece}
use Rattle.runs.proofs.Pieces.{is_read, no-others}
use Rattle.csv_rows.specs.declared.Separator.{Separator}
use Rattle.csv_rows.specs.declared.Fault.{Fault}
use Rattle.csv_rows.specs.declared.RowRead.{RowRead}
use Rattle.csv_rows.specs.declared.RowRead.TheVariants.{Row, Faulty, Endless, More, Nothing}
use Rattle.csv_rows.specs.declared.Skipped.{Skipped}
use Rattle.csv_rows.specs.declared.Skipped.TheVariants.{Ended, On, Wait as Unknown, Over as NoMore}
use Rattle.csv_rows.specs.Reader.{byte_of, Place, line}
use Rattle.csv_rows.specs.Bytes.{feeds}
use Rattle.csv_rows.specs.Answers.{counted, row_by, answer_by, answer_of, is_over, answer, skipped}
use Rattle.csv_rows.specs.Grammar.{Cells, LineEnd, RowAt, Limited}
use Rattle.csv_rows.specs.Grammar.LineEnd.{feed, return_feed, file_end}
use Rattle.csv_rows.specs.Grammar.RowAt.{row}
use Rattle.csv_rows.proofs.Pieces.{Apart, apart}
use Rattle.csv_rows.proofs.Stable.{stays, answer-whole}
use Rattle.csv_rows.proofs.Exact.{cells-read, feed-ends, return-ends, end-no-sep}
use Rattle.csv_rows.proofs.Whole.{accepted}
use Rattle.headers.specs.declared.RowFault.TheVariants.{Broken}
use Rattle.findings.specs.Words.{capped}
use Rattle.findings.specs.Lines.{bad_row_line}
use Rattle.headers.specs.declared.Header.{Header}
use Rattle.headers.specs.declared.Header.TheVariants.{Wait, Without, With}
use Rattle.headers.specs.Header.{header, row_cells}
use Rattle.sheets.specs.declared.Phase.{Phase}
use Rattle.sheets.specs.declared.Phase.TheVariants.{Start, Rows, Skipping}
use Rattle.sheets.specs.declared.Tally.{Tally}
use Rattle.sheets.specs.declared.State.{State}
use Rattle.sheets.specs.Tallies.{one_bad}
use Rattle.sheets.specs.Rows.{checked_row, checked_said, checked_counted}
use Rattle.sheets.specs.Steps.{behind, last_lines, no_tally, start_step, row_step, skip_step, step_in, next, fresh}
use Rattle.sheets.specs.Ends.{EndsWith}
use Rattle.sheets.specs.Parts.{RowsOf, Sums, Together}
use Rattle.sheets.specs.Parts.RowsOf.{no_row, a_row, a_bad}
use Rattle.sheets.proofs.Steady.{steady}
use Rattle.sheets.proofs.Theorems.{pieces_of, report-pieces}
use Rattle.sheets.proofs.Amounts.{capped_is, Raised, capped-more, Counts, together, none-counts, both-counts, bad-amount, checked-amount, raised_by, Within, counts-within, none_within}

-- a state, on another line and with another tally
abbrev pub moved : State → ℕ → Tally → State
moved st l u = record { phase = st.phase; separator = st.separator; columns = st.columns; cells = st.cells; line = l; tally = u }

-- two outcomes of a step: the same bytes are taken, the same is counted, and what is kept differs by line and tally at most
data Alike (t u : Tally) : Outcome State → Outcome State → Type 0 where
  waits : Alike t u wait wait
  takes : {n : ℕ} {text text' : List ℕ} {kept : State} (k : Tally) (l : ℕ) (u' : Tally) → Counts k t kept.tally → Counts k u u'
      → Alike t u (took n text kept) (took n text' (moved kept l u'))
  alike_over : {text text' : List ℕ} → Alike t u (over text) (over text')

module _ (st : State) (l : ℕ) (u : Tally) (s : List ℕ) where
  start-alike : (h : Header) → Alike st.tally u (start_step st s h) (start_step (moved st l u) s h)
  unfolding start_step
  start-alike Wait = waits
  start-alike (Without why) = alike_over
  start-alike (With bytes sep columns cells) = takes no_tally (capped (l + feeds (take bytes s))) u (none-counts st.tally) (none-counts u)

  row-alike : (r : RowRead) (cs : List (List ℕ)) → Alike st.tally u (row_step st s r cs) (row_step (moved st l u) s r cs)
  unfolding row_step behind
  row-alike (Row end count) cs =
      let a = checked-amount st.columns cs (checked_row st.columns st.cells s end count cs) in
      takes a.much (capped (l + feeds (take end s))) _ (a.counts st.tally) (a.counts u)
  row-alike (Faulty end f) cs = takes bad-amount.much (capped (l + feeds (take end s))) _ (bad-amount.counts st.tally) (bad-amount.counts u)
  row-alike (Endless f) cs = takes bad-amount.much (capped (l + feeds (take 65536 s))) _ (bad-amount.counts st.tally) (bad-amount.counts u)
  row-alike More cs = waits
  row-alike Nothing cs = alike_over

  skip-alike : (r : Skipped) → Alike st.tally u (skip_step st s r) (skip_step (moved st l u) s r)
  unfolding skip_step behind
  skip-alike (Ended n) = takes no_tally (capped (l + feeds (take n s))) u (none-counts st.tally) (none-counts u)
  skip-alike On = takes no_tally (capped (l + feeds (take 65536 s))) u (none-counts st.tally) (none-counts u)
  skip-alike Unknown = waits
  skip-alike NoMore = alike_over

  step-alike : (last : Bool) (p : Phase) → Alike st.tally u (step_in p last s st) (step_in p last s (moved st l u))
  unfolding step_in
  step-alike last Start = start-alike (header last s)
  step-alike last Rows = row-alike (answer (byte_of st.separator) last s) (row_cells st.separator last s)
  step-alike last Skipping = skip-alike (skipped last s)

  -- so are those of a step from a state and from one on another line, with another tally
  next-alike : (last : Bool) → Alike st.tally u (next last s st) (next last s (moved st l u))
  unfolding next
  next-alike last = step-alike last st.phase

-- the outcome from the other state, where bytes were taken
record TookAlike (n : ℕ) (kept : State) (t u : Tally) (o : Outcome State) : Type 0 where
  text : List ℕ
  much : Tally
  line' : ℕ
  tally' : Tally
  is : o ≡ took n text (moved kept line' tally')
  counts : Counts much t kept.tally
  counts_again : Counts much u tally'

took-alike : {t u : Tally} {n : ℕ} {text : List ℕ} {kept : State} {o : Outcome State} → Alike t u (took n text kept) o → TookAlike n kept t u o
took-alike (takes {text' = text'} k l u' a b) = record { text = text'; much = k; line' = l; tally' = u'; is = refl; counts = a; counts_again = b }

-- and where the report ended
record OverAlike (o : Outcome State) : Type 0 where
  text : List ℕ
  is : o ≡ over text

over-alike : {t u : Tally} {text : List ℕ} {o : Outcome State} → Alike t u (over text) o → OverAlike o
over-alike (alike_over {text' = text'}) = record { text = text'; is = refl }

-- the bytes of each piece
abbrev pub each_bytes : List (Piece State) → List (List ℕ)
each_bytes [] = []
each_bytes (p ∷ ps) = p.bytes ∷ each_bytes ps

-- what was read from one state is read from another: piece by piece the same bytes, and the same is counted
pub record Again (s : List ℕ) (ps : List (Piece State)) (st at : State) (left : List ℕ) (st' : State) : Type 0 where
  -- the pieces
  pub pieces : List (Piece State)
  -- the line behind them
  pub line' : ℕ
  -- the tally behind them
  pub tally' : Tally
  -- what the report ends with
  pub lastly : List ℕ
  -- what is counted, from either state
  pub much : Tally
  pub reading : Reading next st' s pieces (moved at line' tally') left lastly
  pub same_bytes : each_bytes pieces ≡ each_bytes ps
  pub counts : Counts much st.tally at.tally
  pub counts_again : Counts much st'.tally tally'

again : {st at : State} {s left lastly : List ℕ} {ps : List (Piece State)} (l : ℕ) (u : Tally) → Reading next st s ps at left lastly → Again s ps st at left (moved st l u)
again l u (ends {st} {s} e) =
    let o = over-alike (rw e at (next-alike st l u s true)) in
    record {
      pieces = [];
      line' = l;
      tally' = u;
      lastly = o.text;
      much = no_tally;
      reading = ends o.is;
      same_bytes = refl;
      counts = none-counts st.tally;
      counts_again = none-counts u;
    }
again l u (piece {st} {s} {n} e r) =
    let o = took-alike (rw e at (next-alike st l u s true)) in
    let a = again o.line' o.tally' r in
    record {
      pieces = _;
      line' = a.line';
      tally' = a.tally';
      lastly = a.lastly;
      much = together o.much a.much;
      reading = piece o.is a.reading;
      same_bytes = ap (λ (x : List (List ℕ)). take n s ∷ x) a.same_bytes;
      counts = both-counts o.counts a.counts;
      counts_again = both-counts o.counts_again a.counts_again;
    }

-- two states that differ by line and tally at most
pub record SameRows (st st' : State) : Type 0 where
  pub same_phase : st.phase ≡ st'.phase
  pub same_separator : st.separator ≡ st'.separator
  pub same_columns : st.columns ≡ st'.columns
  pub same_cells : st.cells ≡ st'.cells

moved_to : {st st' : State} → SameRows st st' → moved st st'.line st'.tally ≡ st'
moved_to e = rw (e.same_phase, e.same_separator, e.same_columns, e.same_cells)

-- rows depend neither on the line they stand on nor on what was counted before
pub rows_alike : {st st' at : State} {s left lastly : List ℕ} {ps : List (Piece State)} → SameRows st st' → Reading next st s ps at left lastly → Again s ps st at left st'
rows_alike {st} {st'} {at} {s} {left} {ps} e r = subst (λ (x : State). Again s ps st at left x) (moved_to e) (again st'.line st'.tally r)

-- the five numbers are below the largest
pub record Under (t : Tally) : Type 0 where
  pub few_rows : t.rows < 4294967295
  pub few_strict : t.strict < 4294967295
  pub few_otherwise : t.otherwise < 4294967295
  pub few_refused : t.refused < 4294967295
  pub few_bad : t.bad < 4294967295

-- from t to at as much is counted as from t' to at'
pub record SameCounts (t at t' at' : Tally) : Type 0 where
  pub same_rows : at.rows + t'.rows ≡ at'.rows + t.rows
  pub same_strict : at.strict + t'.strict ≡ at'.strict + t.strict
  pub same_otherwise : at.otherwise + t'.otherwise ≡ at'.otherwise + t.otherwise
  pub same_refused : at.refused + t'.refused ≡ at'.refused + t.refused
  pub same_bad : at.bad + t'.bad ≡ at'.bad + t.bad

same-raised : {k n n' m m' : ℕ} → Raised k n n' → Raised k m m' → n' < 4294967295 → m' < 4294967295 → n' + m ≡ m' + n
same-raised r q h i = omega (arith, raised_by r h, raised_by q i)

-- so, as long as no number is at the largest, the same is counted in both readings
pub counted-alike : {s left : List ℕ} {ps : List (Piece State)} {st at st' : State} (a : Again s ps st at left st') → Under at.tally → Under a.tally'
    → SameCounts st.tally at.tally st'.tally a.tally'
counted-alike a u v =
    record {
      same_rows = same-raised a.counts.in_rows a.counts_again.in_rows u.few_rows v.few_rows;
      same_strict = same-raised a.counts.in_strict a.counts_again.in_strict u.few_strict v.few_strict;
      same_otherwise = same-raised a.counts.in_otherwise a.counts_again.in_otherwise u.few_otherwise v.few_otherwise;
      same_refused = same-raised a.counts.in_refused a.counts_again.in_refused u.few_refused v.few_refused;
      same_bad = same-raised a.counts.in_bad a.counts_again.in_bad u.few_bad v.few_bad;
    }

-- from one block of a file to another, by steps that each took bytes; `last` says that the file ends behind the blocks
pub data Upto (last : Bool) : State → List ℕ → State → List ℕ → Type 0 where
  -- where one is
  here : {st : State} {s : List ℕ} → Upto last st s st s
  -- a step, then others
  on : {st kept mid : State} {s text rest : List ℕ} {n : ℕ} → next last s st ≡ took n text kept → Upto last kept (drop n s) mid rest → Upto last st s mid rest

took-waits : {n : ℕ} {text : List ℕ} {kept : State} → took n text kept ≡ wait → ⊥
took-waits e = let z : ◌≡◌ {A = ℕ} 0 1 = cc in omega arith

same_kept : {n n' : ℕ} {text text' : List ℕ} {kept kept' : State} → took n text kept ≡ took n' text' kept' → kept ≡ kept'
same_kept e = cc

-- steps before the file's end are taken whatever follows
pub upto-more : {last : Bool} {st mid : State} {s rest : List ℕ} (t : List ℕ) → Upto false st s mid rest → Upto last st (s ++ t) mid (rest ++ t)
upto-more t here = here
upto-more {last} t (on {st} {kept} {mid} {s} {rest = rest} {n} e r) =
    let d = drop-append-le n s t (steady.moves false s st e).1 in
    on (steady.stable s t st last (λ w. took-waits (sym e ∙ w)) ∙ e) (subst (λ (x : List ℕ). Upto last kept x mid (rest ++ t)) (sym d) (upto-more t r))

-- the header was read
data Begun : Phase → Type 0 where
  in_rows : Begun Rows
  in_skip : Begun Skipping

-- what the header says is kept
record Kept (st kept : State) : Type 0 where
  begun : Begun kept.phase
  kept_separator : st.separator ≡ kept.separator
  kept_columns : st.columns ≡ kept.columns
  kept_cells : st.cells ≡ kept.cells

data Keeps (st : State) : Outcome State → Type 0 where
  waits : Keeps st wait
  takes : {n : ℕ} {text : List ℕ} {kept : State} → Kept st kept → Keeps st (took n text kept)
  alike_over : {text : List ℕ} → text ≡ last_lines st.tally → Keeps st (over text)

module _ (st : State) (s : List ℕ) where
  rows-kept : (n : ℕ) (t : Tally) → Kept st (behind st s n Rows t)
  unfolding behind
  rows-kept n t = record { begun = in_rows; kept_separator = refl; kept_columns = refl; kept_cells = refl }

  skips-kept : (n : ℕ) (t : Tally) → Kept st (behind st s n Skipping t)
  unfolding behind
  skips-kept n t = record { begun = in_skip; kept_separator = refl; kept_columns = refl; kept_cells = refl }

  row_keeps : (r : RowRead) (cs : List (List ℕ)) → Keeps st (row_step st s r cs)
  unfolding row_step
  row_keeps (Row end count) cs = takes (rows-kept end _)
  row_keeps (Faulty end f) cs = takes (rows-kept end _)
  row_keeps (Endless f) cs = takes (skips-kept 65536 _)
  row_keeps More cs = waits
  row_keeps Nothing cs = alike_over refl

  skip-keeps : (r : Skipped) → Keeps st (skip_step st s r)
  unfolding skip_step
  skip-keeps (Ended n) = takes (rows-kept n _)
  skip-keeps On = takes (skips-kept 65536 _)
  skip-keeps Unknown = waits
  skip-keeps NoMore = alike_over refl

  step_keeps : (last : Bool) {p : Phase} → Begun p → Keeps st (step_in p last s st)
  unfolding step_in
  step_keeps last in_rows = row_keeps (answer (byte_of st.separator) last s) (row_cells st.separator last s)
  step_keeps last in_skip = skip-keeps (skipped last s)

  next-keeps : (last : Bool) → Begun st.phase → Keeps st (next last s st)
  unfolding next
  next-keeps last b = step_keeps last b

took-keeps : {st kept : State} {n : ℕ} {text : List ℕ} → Keeps st (took n text kept) → Kept st kept
took-keeps (takes k) = k

over-keeps : {st : State} {text : List ℕ} → Keeps st (over text) → text ≡ last_lines st.tally
over-keeps (alike_over e) = e

-- behind the header a report ends with the numbers
reading-ends : {st at : State} {s left lastly : List ℕ} {ps : List (Piece State)} → Begun st.phase → Reading next st s ps at left lastly → lastly ≡ last_lines at.tally
reading-ends b (ends {st} {s} e) = over-keeps (rw e at (next-keeps st s true b))
reading-ends b (piece {st} {s = s} e r) = reading-ends (took-keeps (rw e at (next-keeps st s true b))).begun r

both-kept : {st kept mid : State} → Kept st kept → Kept kept mid → Kept st mid
both-kept a b =
    record {
      begun = b.begun;
      kept_separator = a.kept_separator ∙ b.kept_separator;
      kept_columns = a.kept_columns ∙ b.kept_columns;
      kept_cells = a.kept_cells ∙ b.kept_cells;
    }

upto-kept : {last : Bool} {st mid : State} {s rest : List ℕ} → Begun st.phase → Upto last st s mid rest → Kept st mid
upto-kept b here = record { begun = b; kept_separator = refl; kept_columns = refl; kept_cells = refl }
upto-kept {last} b (on {st} {s = s} e r) =
    let k = took-keeps (rw e at (next-keeps st s last b)) in
    both-kept k (upto-kept k.begun r)

upto-within : {last : Bool} {st mid : State} {s rest : List ℕ} → Upto last st s mid rest → Within st.tally → Within mid.tally
upto-within here w = w
upto-within {last} (on {st} {s = s} e r) w =
    let o = took-alike (rw e at (next-alike st 0 st.tally s last)) in
    upto-within r (counts-within o.counts w)

-- the numbers at the end of a report are of 32 bits
pub reading-within : {at : State} {s left lastly : List ℕ} {ps : List (Piece State)} → Reading next fresh s ps at left lastly → Within at.tally
unfolding fresh
reading-within r = counts-within (again 0 no_tally r).counts none_within

-- behind the header rows are read, and nothing is counted yet
data Headed : Outcome State → Type 0 where
  waits : Headed wait
  takes : {n : ℕ} {text : List ℕ} {kept : State} → kept.phase ≡ Rows → kept.tally ≡ no_tally → Headed (took n text kept)
  alike_over : {text : List ℕ} → Headed (over text)

start-headed : (s : List ℕ) (h : Header) → Headed (start_step fresh s h)
unfolding start_step fresh
start-headed s Wait = waits
start-headed s (Without why) = alike_over
start-headed s (With bytes sep columns cells) = takes refl refl

next-headed : (last : Bool) (s : List ℕ) → Headed (next last s fresh)
unfolding next step_in fresh
next-headed last s = start-headed s (header last s)

took-headed : {n : ℕ} {text : List ℕ} {kept : State} → Headed (took n text kept) → (kept.phase ≡ Rows) × (kept.tally ≡ no_tally)
took-headed (takes a b) = (a, b)

-- behind a header that was read the report ends with the numbers
pub header-ends : (s : List ℕ) {n : ℕ} {text : List ℕ} {kept : State} → next true s fresh ≡ took n text kept → {at : State} {t left lastly : List ℕ} {ps : List (Piece State)}
    → Reading next kept t ps at left lastly → lastly ≡ last_lines at.tally
header-ends s {kept = kept} e r = let b : Begun kept.phase = rw (took-headed (rw e at (next-headed true s))).0 in_rows in reading-ends b r

fresh_start : fresh.phase ≡ Start
unfolding fresh
fresh_start = refl

fresh-none : fresh.tally ≡ no_tally
unfolding fresh
fresh-none = refl

start-rows : Start ≡ Rows → ⊥
start-rows e = let z : ◌≡◌ {A = ℕ} 0 1 = cc in omega arith

-- what is read from a place on ends the reading of the whole
record Joined (st : State) (s : List ℕ) (at : State) (left lastly : List ℕ) : Type 0 where
  pieces : List (Piece State)
  reading : Reading next st s pieces at left lastly

joined : {st mid at : State} {s rest left lastly : List ℕ} {ps : List (Piece State)} → Upto true st s mid rest → Reading next mid rest ps at left lastly → Joined st s at left lastly
joined here r = record { pieces = _; reading = r }
joined (on e u) r = let j = joined u r in record { pieces = _; reading = piece e j.reading }

same_end : {st mid at at' : State} {s rest left left' lastly lastly' : List ℕ} {ps ps' : List (Piece State)} → Upto true st s mid rest
    → Reading next mid rest ps at left lastly → Reading next st s ps' at' left' lastly' → at ≡ at'
same_end u r q = (no-others (joined u r).reading q).1

-- where nothing is behind, the reading ends there
nothing-behind : {st at : State} {left lastly : List ℕ} {ps : List (Piece State)} → Reading next st [] ps at left lastly → at ≡ st
nothing-behind (ends e) = refl
nothing-behind (piece {st} e r) = absurd (none-taken (steady.moves true [] st e))
  where
    none-taken : {n : ℕ} → (0 < n) × (n ≤ 0) → ⊥
    none-taken m = omega (arith, m.0, m.1)

then-upto : {last : Bool} {st mid mid' : State} {s t rest : List ℕ} → Upto last st s mid t → Upto last mid t mid' rest → Upto last st s mid' rest
then-upto here v = v
then-upto (on e u) v = on e (then-upto u v)

one-sum : {k m n w : ℕ} → Raised k 0 n → Raised k m w → m ≤ 4294967295 → w ≡ capped (m + n)
one-sum {k} {m} {n} {w} a b h =
    let i = b.within h in
    let e : capped w ≡ w = omega (arith, capped_is w) in
    let f : m + k ≡ k + m = omega arith in
    let g : n + m ≡ m + n = omega arith in
    let z : 0 + k ≡ k = omega arith in
    sym e ∙ b.sum ∙ ap capped f ∙ sym (capped-more n k m (a.sum ∙ ap capped z)) ∙ ap capped g

all-sums : {k t t' whole : Tally} → Counts k no_tally t' → Counts k t whole → Within t → Sums t t' whole
all-sums a b w =
    record {
      sum_rows = one-sum a.in_rows b.in_rows w.low_rows;
      sum_strict = one-sum a.in_strict b.in_strict w.low_strict;
      sum_otherwise = one-sum a.in_otherwise b.in_otherwise w.low_otherwise;
      sum_refused = one-sum a.in_refused b.in_refused w.low_refused;
      sum_bad = one-sum a.in_bad b.in_bad w.low_bad;
    }

-- a header that is known before anything follows
module _ (h : List ℕ) {st : State} (head : next false h fresh ≡ took (length h) [] st) where
  -- it is read first, whatever follows
  header-first : {last : Bool} (s : List ℕ) → Upto last fresh (h ++ s) st s
  header-first {last} s =
      on (steady.stable h s fresh last (λ w. took-waits (sym head ∙ w)) ∙ head) (subst (λ (x : List ℕ). Upto last st x st s) (sym (drop-append_seam h s)) here)

  rows_next : (st.phase ≡ Rows) × (st.tally ≡ no_tally)
  rows_next = took-headed (rw head at (next-headed false h))

  -- a report on a file with it ends with the numbers
  pub ends-counted : (s : List ℕ) {at : State} {left lastly : List ℕ} {ps : List (Piece State)} → Reading next fresh (h ++ s) ps at left lastly → lastly ≡ last_lines at.tally
  ends-counted s {at} r =
      let x = is_read steady st s in
      let z = no-others (joined (header-first s) x.reading).reading r in
      let b : Begun st.phase = rw rows_next.0 in_rows in
      sym z.3 ∙ reading-ends b x.reading ∙ ap (λ (y : State). last_lines y.tally) z.1

  -- a place behind it, in rows
  cut-kept : (s : List ℕ) {mid : State} {b : List ℕ} → Upto true fresh (h ++ s) mid b → mid.phase ≡ Rows → SameRows st mid
  cut-kept s here p = absurd (start-rows (sym fresh_start ∙ p))
  cut-kept s (on {kept = kept} e r) p =
      let f = steady.stable h s fresh true (λ w. took-waits (sym head ∙ w)) ∙ head in
      let k : kept ≡ st = same_kept (sym e ∙ f) in
      let z : Begun kept.phase = rw (k, rows_next.0) in_rows in
      let y = upto-kept z r in
      record {
        same_phase = rows_next.0 ∙ sym p;
        same_separator = rw (← k) y.kept_separator;
        same_columns = rw (← k) y.kept_columns;
        same_cells = rw (← k) y.kept_cells;
      }

  -- a file is cut where a step took a row to its end: it counts what was counted there, and what the rest with the header counts
  pub cut-adds : (s b : List ℕ) {mid at at' : State} {left left' lastly lastly' : List ℕ} {ps ps' : List (Piece State)} → Upto true fresh (h ++ s) mid b → mid.phase ≡ Rows
      → Reading next fresh (h ++ s) ps at left lastly → Reading next fresh (h ++ b) ps' at' left' lastly' → Sums mid.tally at'.tally at.tally
  cut-adds s b {mid} {at} {at'} u p r q =
      let x = is_read steady st b in
      let a = rows_alike (cut-kept s u p) x.reading in
      let e : x.at ≡ at' = same_end (header-first b) x.reading q in
      let f : moved x.at a.line' a.tally' ≡ at = same_end u a.reading r in
      let w = upto-within u (rw fresh-none none_within) in
      let c : Counts a.much no_tally at'.tally = rw (← rows_next.1, ← e) a.counts in
      let d : Counts a.much mid.tally at.tally = rw (← f) a.counts_again in
      all-sums c d w

  -- where a part has whole rows, each known before anything follows, the file counts what this part and the rest count, each with the header
  pub parts_add : (a b : List ℕ) {mid at at' whole : State} {left left' left'' lastly lastly' lastly'' : List ℕ} {ps ps' ps'' : List (Piece State)}
      → Upto false st a mid [] → mid.phase ≡ Rows
      → Reading next fresh (h ++ a) ps at left lastly → Reading next fresh (h ++ b) ps' at' left' lastly' → Reading next fresh (h ++ (a ++ b)) ps'' whole left'' lastly''
      → Sums at.tally at'.tally whole.tally
  parts_add a b {mid} {at} {at'} {whole} u p r q w =
      let v : Upto true st (a ++ b) mid b = upto-more b u in
      let x = is_read steady mid [] in
      let y : Upto true st a mid [] = subst (λ (s : List ℕ). Upto true st s mid []) (append-nil a) (upto-more [] u) in
      let e : mid ≡ at = sym (nothing-behind x.reading) ∙ same_end (then-upto (header-first a) y) x.reading r in
      let c = cut-adds (a ++ b) b (then-upto (header-first (a ++ b)) v) p w q in
      rw (← e) c

-- a row that is read to its end is answered
counted-some : (count end : ℕ) → counted count end ≡ More → ⊥
unfolding counted pick
counted-some count end =
    of_test (leb count 256) (λ q. rw q (λ e. let z : ◌≡◌ {A = ℕ} 0 1 = cc in omega arith)) (λ q. rw q (λ e. let z : ◌≡◌ {A = ℕ} 0 1 = cc in omega arith))

through-some : (w : List ℕ) (count n : ℕ) → row_by w count n ≡ More → ⊥
unfolding row_by pick
through-some w count n =
    of_test (eqb (length w) 0) (λ q. rw q (λ e. let z : ◌≡◌ {A = ℕ} 0 1 = cc in omega arith)) (λ q. rw q (λ e. counted-some count _ e))

cells-some : {sep : ℕ} → Apart sep → {text e : List ℕ} {cs : List Place} {ts : List (List ℕ)} → Cells sep 0 text cs ts → LineEnd e [] → 0 < length e
    → length (text ++ e) ≤ 65536 → answer sep false (text ++ e) ≡ More → ⊥
unfolding line answer_of answer_by is_over
cells-some {sep} p {text} {cs = cs} c feed h l =
    rw (answer-whole sep false (text ++ 10 ∷ []) l, cells-read p false c (10 ∷ []) (feed-ends false sep []) (end-no-sep p (feed {r = []})))
    (λ z. through-some (text ++ 10 ∷ []) (length cs) (0 + length text) z)
cells-some {sep} p {text} {cs = cs} c return_feed h l =
    rw (answer-whole sep false (text ++ 13 ∷ 10 ∷ []) l, cells-read p false c (13 ∷ 10 ∷ []) (return-ends false sep []) (end-no-sep p (return_feed {r = []})))
    (λ z. through-some (text ++ 13 ∷ 10 ∷ []) (length cs) (0 + length text) z)
cells-some p c file_end h l = absurd (omega arith)

same-front : (x y z w : List ℕ) → x ++ y ≡ z ++ w → length x ≡ length z → x ≡ z
same-front x y z w e l = sym (take-append_seam x y) ∙ ap (λ (v : List ℕ). take (length x) v) e ∙ ap (λ (n : ℕ). take n (z ++ w)) l ∙ take-append_seam z w

record Ending (sep : ℕ) (s rest : List ℕ) (cs : List Place) (ts : List (List ℕ)) : Type 0 where
  text : List ℕ
  end : List ℕ
  split : s ≡ text ++ end
  cells : Cells sep 0 text cs ts
  behind_it : LineEnd end rest

ending_of : {sep : ℕ} {s rest : List ℕ} {cs : List Place} {ts : List (List ℕ)} → RowAt sep s rest cs ts → Ending sep s rest cs ts
ending_of (row {s} {e} c l) = record { text = s; end = e; split = refl; cells = c; behind_it = l }

module _ (k : Separator) (r u : List ℕ) (some : 0 < length u) where
  by_end : {rest text end : List ℕ} {cs : List Place} {ts : List (List ℕ)} → length r + length rest ≡ length (r ++ u) → length r ≤ 65536 → r ++ u ≡ text ++ end
      → Cells (byte_of k) 0 text cs ts → LineEnd end rest → answer (byte_of k) false r ≡ More → ⊥
  by_end {rest} {text} m l e c feed =
      let v = length-append text (10 ∷ rest) in
      let w = length-append text (10 ∷ []) in
      let n : length (r ++ u) ≡ length (text ++ 10 ∷ rest) = ap length e in
      let f : r ≡ text ++ 10 ∷ [] = same-front r u (text ++ 10 ∷ []) rest (e ∙ sym (append_assoc text (10 ∷ []) rest)) (omega arith) in
      rw f (cells-some (apart k) c (feed {r = []}) (omega arith) (rw (← f) l))
  by_end {rest} {text} m l e c return_feed =
      let v = length-append text (13 ∷ 10 ∷ rest) in
      let w = length-append text (13 ∷ 10 ∷ []) in
      let n : length (r ++ u) ≡ length (text ++ 13 ∷ 10 ∷ rest) = ap length e in
      let f : r ≡ text ++ 13 ∷ 10 ∷ [] = same-front r u (text ++ 13 ∷ 10 ∷ []) rest (e ∙ sym (append_assoc text (13 ∷ 10 ∷ []) rest)) (omega arith) in
      rw f (cells-some (apart k) c (return_feed {r = []}) (omega arith) (rw (← f) l))
  by_end m l e c file_end = absurd (let v = length-append r u in omega (arith, m, some))

  -- a row that something follows is known by its own bytes
  pub row-known : {count : ℕ} → Limited (byte_of k) (r ++ u) (length r) count → answer (byte_of k) false r ≡ Row (length r) count
  row-known {count} l =
      let o = ending_of l.is_row in
      let n = by_end l.measured l.short o.split o.cells o.behind_it in
      sym (stays (byte_of k) r n true u).same_answer ∙ (accepted k (r ++ u) (length r) count).1 l

-- a step over a row that is known by its own bytes
record Over (k : Separator) (st : State) (r : List ℕ) : Type 0 where
  text : List ℕ
  kept : State
  steps : next false r st ≡ took (length r) text kept
  in_rows : kept.phase ≡ Rows
  by_separator : kept.separator ≡ k

module _ {k : Separator} {st : State} (p : st.phase ≡ Rows) (q : st.separator ≡ k) (r : List ℕ) where
  over-row : {count : ℕ} → answer (byte_of k) false r ≡ Row (length r) count → Over k st r
  unfolding next step_in row_step behind
  over-row {count} e =
      let cs = row_cells k false r in
      let c = checked_row st.columns st.cells r (length r) count cs in
      record {
        text = checked_said st.line st.columns cs c;
        kept = behind st r (length r) Rows (checked_counted st.columns cs c st.tally);
        steps = rw (p, q, e);
        in_rows = refl;
        by_separator = q;
      }

  over-bad : {f : Fault} → answer (byte_of k) false r ≡ Faulty (length r) f → Over k st r
  unfolding next step_in row_step behind
  over-bad {f} e =
      record { text = bad_row_line st.line (Broken f); kept = behind st r (length r) Rows (one_bad st.tally); steps = rw (p, q, e); in_rows = refl; by_separator = q }

-- the state behind rows
record Past (st : State) (a : List ℕ) : Type 0 where
  mid : State
  upto : Upto false st a mid []
  in_rows : mid.phase ≡ Rows

one-past : {k : Separator} {st : State} (r a : List ℕ) (o : Over k st r) → Past o.kept a → Past st (r ++ a)
one-past {st = st} r a o x =
    let e = steady.stable r a st false (λ w. took-waits (sym o.steps ∙ w)) ∙ o.steps in
    record {
      mid = x.mid;
      upto = on e (subst (λ (v : List ℕ). Upto false o.kept v x.mid []) (sym (drop-append_seam r a)) x.upto);
      in_rows = x.in_rows;
    }

more-some : (a b : List ℕ) → 0 < length b → 0 < length (a ++ b)
more-some a b h = let l = length-append a b in omega arith

rows-past : {k : Separator} (b : List ℕ) → 0 < length b → {st : State} {a : List ℕ} → st.phase ≡ Rows → st.separator ≡ k → RowsOf k b a → Past st a
rows-past b h {st = st} p q no_row = record { mid = st; upto = here; in_rows = p }
rows-past {k} b h {st = st} p q (a_row r a l m) =
    let o = over-row {st = st} p q r (row-known k r (a ++ b) (more-some a b h) l) in
    one-past r a o (rows-past b h {st = o.kept} o.in_rows o.by_separator m)
rows-past b h {st = st} p q (a_bad r a e m) =
    let o = over-bad {st = st} p q r e in
    one-past r a o (rows-past b h {st = o.kept} o.in_rows o.by_separator m)

-- a file has a header, then rows, then more: it counts what the header with the rows and the header with the rest count
pub rows-add : (h : List ℕ) {st : State} → next false h fresh ≡ took (length h) [] st → (a b : List ℕ) → 0 < length b → RowsOf st.separator b a
    → {at at' whole : State} {left left' left'' lastly lastly' lastly'' : List ℕ} {ps ps' ps'' : List (Piece State)}
    → Reading next fresh (h ++ a) ps at left lastly → Reading next fresh (h ++ b) ps' at' left' lastly' → Reading next fresh (h ++ (a ++ b)) ps'' whole left'' lastly''
    → Sums at.tally at'.tally whole.tally
rows-add h head a b some m x y z =
    let p = rows-past b some (rows_next h head).0 refl m in
    parts_add h head a b p.upto p.in_rows x y z

pub ends_with : (h : List ℕ) {st : State} → next false h fresh ≡ took (length h) [] st → (s : List ℕ) {at : State} {left lastly : List ℕ} {ps : List (Piece State)}
    → Reading next fresh (h ++ s) ps at left lastly → EndsWith (h ++ s) at.tally
ends_with h head s {ps = ps} r = record { lines = all_texts ps; is = report-pieces r ∙ ap (λ (x : List ℕ). all_texts ps ++ x) (ends-counted h head s r) }

-- so the numbers at the ends of the reports on the parts of a file add up to those at the end of the report on it
pub reports-add : (h : List ℕ) {st : State} → next false h fresh ≡ took (length h) [] st → (a b : List ℕ) → 0 < length b → RowsOf st.separator b a
    → Together (h ++ a) (h ++ b) (h ++ (a ++ b))
reports-add h head a b some m =
    let x = pieces_of (h ++ a) in
    let y = pieces_of (h ++ b) in
    let z = pieces_of (h ++ (a ++ b)) in
    record {
      numbers = x.at.tally;
      numbers' = y.at.tally;
      all_numbers = z.at.tally;
      ends_so = ends_with h head a x.reading;
      ends_so' = ends_with h head b y.reading;
      all_ends_so = ends_with h head (a ++ b) z.reading;
      sums = rows-add h head a b some m x.reading y.reading z.reading;
    }
