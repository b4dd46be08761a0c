-- What a report ends with; and it says that a file is safe to sign exactly if it has no finding. Assumes nothing.
use mathlib.Core.Path.{◌≡◌, refl, sym, ap, ◌∙◌, subst}
use mathlib.Core.Bool.{Bool, true, false}
use mathlib.Core.List.{List, [], ◌∷◌, ◌++◌, append_assoc, append-nil}
use Prim.Native.Nat.{ℕ, zero, suc, ◌+◌, ◌-◌, ◌/◌, ◌%◌, ◌<◌}
use native.Mathlib.Omega.{arith}
use borrow.Author.Tests.{eqb-true, eqb-false, ne_eqb, ltb-false}
use lib.Dec.{eqb, ltb}
use lib.ListN.{length, drop, length-append}
use lib.Seq.{drop-append_seam}
use Rattle.chars.specs.Pick.{pick}
use Rattle.chars.specs.Ascii.{ascii}
use Rattle.chars.proofs.Cases.{of_test, by-test}
use Rattle.runs.specs.Steps.{Outcome}
use Rattle.runs.specs.Steps.Outcome.{wait, took, over}
use Rattle.runs.specs.Pieces.{Piece, all_bytes, all_texts, Reading}
use Rattle.runs.specs.Pieces.Reading.{ends, piece}
use Rattle.runs.proofs.Pieces.{Read}
use Rattle.puts.specs.Numbers.{digits, digit_count, width, decimal}
use Rattle.csv_rows.specs.declared.Separator.{Separator}
use Rattle.csv_rows.specs.declared.Fault.{Fault}
use Rattle.csv_rows.specs.declared.Fault.TheVariants.{QuoteInside, TextBehind, LoneReturn, NeverClosed, TooLong, TooMany}
use Rattle.csv_rows.specs.declared.RowRead.{RowRead}
use Rattle.csv_rows.specs.declared.RowRead.TheVariants.{Row, Faulty, Endless, More, Nothing}
use Rattle.csv_rows.specs.declared.Skipped.{Skipped}
use Rattle.csv_rows.specs.Reader.{byte_of}
use Rattle.csv_rows.specs.Answers.{answer}
use Rattle.csv_rows.proofs.Moves.{nothing-over}
use Rattle.csv_rows.proofs.Lines.{skip-moves, Skips}
use Rattle.csv_rows.proofs.Lines.Skips.{skips_to, skips_on, skips_wait, skips_over}
use Rattle.headers.specs.declared.RowFault.{RowFault}
use Rattle.headers.specs.declared.RowFault.TheVariants.{Broken, Cells, BadUtf8, LongCell}
use Rattle.headers.specs.declared.Unusable.{Unusable}
use Rattle.headers.specs.declared.Unusable.TheVariants.{Empty, NoColumn, Twice, Returns, NoRow}
use Rattle.findings.specs.Words.{counted, capped, placed, fault_words, row_words}
use Rattle.findings.specs.Lines.{signing, summary, unusable_words, unread_line}
use Rattle.findings.proofs.Shape.{occurs, occurs-append, summary-two, unread-one}
use Rattle.headers.specs.declared.Columns.{Columns}
use Rattle.headers.specs.declared.Header.{Header}
use Rattle.headers.specs.declared.Header.TheVariants.{Wait, Without, With}
use Rattle.headers.specs.Header.{header, row_cells}
use Rattle.headers.proofs.Stays.{header-decides}
use Rattle.sheets.specs.declared.Phase.{Phase}
use Rattle.sheets.specs.declared.Phase.TheVariants.{Start, Rows, Skipping}
use Rattle.sheets.specs.declared.Tally.{Tally}
use Rattle.sheets.specs.declared.State.{State}
use Rattle.sheets.specs.Steps.{last_lines, start_step, row_step, skip_step, step_in, next, fresh}
use Rattle.sheets.specs.Reports.{report}
use Rattle.sheets.specs.Ends.{EndsWith, SaysSafe}
use Rattle.sheets.proofs.Theorems.{pieces_of, report-pieces, file-pieces}
use Rattle.sheets.proofs.Counts.{found, lines_none, silent-none}
use Rattle.sheets.proofs.Parts.{header-ends}

-- a report ends at the file's end with the numbers, or says why the file can not be read
pub data Closes (at : State) (left lastly : List ℕ) : Type 0 where
  in_full : left ≡ [] → lastly ≡ last_lines at.tally → Closes at left lastly
  unread : (why : Unusable) → lastly ≡ unread_line why → Closes at left lastly

data Final (st : State) (s : List ℕ) : Outcome State → Type 0 where
  waits : Final st s wait
  takes : {n : ℕ} {text : List ℕ} {kept : State} → Final st s (took n text kept)
  is_over : {text : List ℕ} → Closes st s text → Final st s (over text)

module _ (st : State) (s : List ℕ) where
  start-final : (h : Header) → Final st s (start_step st s h)
  unfolding start_step
  start-final Wait = waits
  start-final (Without why) = is_over (unread why refl)
  start-final (With bytes sep columns cells) = takes

  row-final : (r : RowRead) (cs : List (List ℕ)) → answer (byte_of st.separator) true s ≡ r → Final st s (row_step st s r cs)
  unfolding row_step
  row-final (Row end count) cs e = takes
  row-final (Faulty end f) cs e = takes
  row-final (Endless f) cs e = takes
  row-final More cs e = waits
  row-final Nothing cs e = is_over (in_full (nothing-over (byte_of st.separator) true s e).1 refl)

  skip-final : {r : Skipped} → Skips true s r → Final st s (skip_step st s r)
  unfolding skip_step
  skip-final (skips_to h k l) = takes
  skip-final (skips_on h) = takes
  skip-final (skips_wait h k) = waits
  skip-final (skips_over h e) = is_over (in_full e refl)

  step-final : (p : Phase) → Final st s (step_in p true s st)
  unfolding step_in
  step-final Start = start-final (header true s)
  step-final Rows = row-final (answer (byte_of st.separator) true s) (row_cells st.separator true s) refl
  step-final Skipping = skip-final (skip-moves true s)

over-closes : {st : State} {s text : List ℕ} → Final st s (over text) → Closes st s text
over-closes (is_over c) = c

next-closes : (st : State) (s : List ℕ) {text : List ℕ} → next true s st ≡ over text → Closes st s text
unfolding next
next-closes st s e = over-closes (rw e at (step-final st s st.phase))

-- so does every reading: nothing of a file that can be read is left
pub reading-closes : {st at : State} {s left lastly : List ℕ} {ps : List (Piece State)} → Reading next st s ps at left lastly → Closes at left lastly
reading-closes (ends {st} {s} e) = next-closes st s e
reading-closes (piece e r) = reading-closes r

-- a text ends with another
record Ends (v t : List ℕ) : Type 0 where
  front : List ℕ
  is : t ≡ front ++ v

last_of : (u v : List ℕ) → drop (length (u ++ v) - length v) (u ++ v) ≡ v
last_of u v = let l = length-append u v in let e : length (u ++ v) - length v ≡ length u = omega arith in rw e (drop-append_seam u v)

one_end : {v w t : List ℕ} → length v ≡ length w → Ends v t → Ends w t → v ≡ w
one_end {v} {w} {t} l p q =
    let x : drop (length t - length v) t ≡ v = rw p.is (last_of p.front v) in
    let y : drop (length t - length w) t ≡ w = rw q.is (last_of q.front w) in
    let z : drop (length t - length v) t ≡ drop (length t - length w) t = rw l in
    sym x ∙ z ∙ y

behind_it : {v : List ℕ} (s : List ℕ) {t : List ℕ} → Ends v t → Ends v (s ++ t)
behind_it {v} s e = record { front = s ++ e.front; is = ap (λ (x : List ℕ). s ++ x) e.is ∙ sym (append_assoc s e.front v) }

-- a text that does not end with `safe to sign`, by its last bytes
data Unsafe (t : List ℕ) : Type 0 where
  by_one : (b : ℕ) → (b ≡ 110 → ⊥) → Ends (b ∷ 10 ∷ []) t → Unsafe t
  by_two : (b : ℕ) → (b ≡ 103 → ⊥) → Ends (b ∷ 110 ∷ 10 ∷ []) t → Unsafe t

not-safe : {t : List ℕ} → Unsafe t → Ends (ascii "safe to sign\n") t → ⊥
not-safe (by_one b h p) q =
    let e : Ends (110 ∷ 10 ∷ []) _ = record { front = q.front ++ ascii "safe to sig"; is = q.is ∙ sym (append_assoc q.front (ascii "safe to sig") (110 ∷ 10 ∷ [])) } in
    let z = one_end refl p e in
    h (cc)
not-safe (by_two b h p) q =
    let e : Ends (103 ∷ 110 ∷ 10 ∷ []) _ = record { front = q.front ++ ascii "safe to si"; is = q.is ∙ sym (append_assoc q.front (ascii "safe to si") (103 ∷ 110 ∷ 10 ∷ [])) } in
    let z = one_end refl p e in
    h (cc)

unsafe-behind : (s : List ℕ) {t : List ℕ} → Unsafe t → Unsafe (s ++ t)
unsafe-behind s (by_one b h p) = by_one b h (behind_it s p)
unsafe-behind s (by_two b h p) = by_two b h (behind_it s p)

-- words before a line's end
by-words : (front : List ℕ) (b : ℕ) → (b ≡ 110 → ⊥) → Unsafe ((front ++ (b ∷ [])) ++ (10 ∷ []))
by-words front b h = by_one b h (record { front = front; is = append_assoc front (b ∷ []) (10 ∷ []) })

findings-end : (b : Bool) → Unsafe (pick b (ascii " finding\n") (ascii " findings\n"))
unfolding pick
findings-end true = by-words (ascii " findin") 103 (λ e. omega arith)
findings-end false = by-words (ascii " finding") 115 (λ e. omega arith)

pick_no : {b : Bool} (x y : List ℕ) → b ≡ false → pick b x y ≡ y
unfolding pick
pick_no x y e = rw e

signing-ends : (n : ℕ) → (n ≡ 0 → ⊥) → Unsafe (signing n)
unfolding signing
signing-ends n h =
    subst Unsafe
    (sym (pick_no (ascii "safe to sign\n") (counted (ascii "do not sign: ") n ++ pick (eqb n 1) (ascii " finding\n") (ascii " findings\n")) (ne_eqb n 0 h)))
    (unsafe-behind (counted (ascii "do not sign: ") n) (findings-end (eqb n 1)))

-- the two lines end with what follows from the findings
summary-ends : (t : Tally) → Ends (signing (found t)) (last_lines t)
unfolding summary
summary-ends t =
    behind_it (counted (ascii "rows ") t.rows)
    (behind_it (counted (ascii ", dates ") (t.strict + t.otherwise + t.refused))
    (behind_it (counted (ascii ", strict ") t.strict)
    (behind_it (counted (ascii ", read otherwise ") t.otherwise)
    (behind_it (counted (ascii ", refused ") t.refused)
    (behind_it (counted (ascii ", bad rows ") t.bad) (behind_it (ascii "\n") (record { front = []; is = refl })))))))

last-safe : (t : Tally) → found t ≡ 0 → Ends (ascii "safe to sign\n") (last_lines t)
unfolding signing pick
last-safe t e = let p = summary-ends t in rw e at p

last-unsafe : (t : Tally) → (found t ≡ 0 → ⊥) → Unsafe (last_lines t)
last-unsafe t h = let p = summary-ends t in rw p.is (unsafe-behind p.front (signing-ends (found t) h))

-- lines and the two at the end say `safe to sign` only if no finding is counted
pub safe-only : (lines : List ℕ) (t : Tally) (u : List ℕ) → lines ++ last_lines t ≡ u ++ ascii "safe to sign\n" → found t ≡ 0
safe-only lines t u e =
    of_test (eqb (found t) 0) (λ q. eqb-true (found t) 0 q)
    (λ q. absurd (not-safe (unsafe-behind lines (last-unsafe t (eqb-false (found t) 0 q))) (record { front = u; is = e })))

-- and then nothing was said of the file
pub safe-none : {at : State} {s left lastly : List ℕ} {ps : List (Piece State)} → Reading next fresh s ps at left lastly → lastly ≡ last_lines at.tally
    → (u : List ℕ) → lastly ≡ u ++ ascii "safe to sign\n" → all_texts ps ≡ []
safe-none {at} r e u f = lines_none r (safe-only [] at.tally u (sym e ∙ f))

-- ---- why a header can not be used

digits-end : (w n : ℕ) → 0 < w → Unsafe (digits w n ++ (10 ∷ []))
digits-end zero n h = absurd (omega arith)
digits-end (suc w) n h = by-words (digits w (n / 10)) (48 + n % 10) (λ e. omega arith)

width_some : (n : ℕ) → 0 < width 1 n
unfolding width
width_some n = by-test (λ (w : ℕ). 0 < w) (ltb (digit_count n) 1) (λ q. omega arith) (λ q. omega (arith, ltb-false (digit_count n) 1 q))

placed_end : (words : List ℕ) (n : ℕ) → Unsafe (placed words n ++ (10 ∷ []))
unfolding decimal
placed_end words n = rw append_assoc (unsafe-behind words (digits-end (width 1 (capped n)) (capped n) (width_some (capped n))))

fault-end : (f : Fault) → Unsafe (fault_words f ++ (10 ∷ []))
unfolding fault_words
fault-end (QuoteInside p) = placed_end (ascii "a quote in a cell that has none around it, at ") p
fault-end (TextBehind p) = placed_end (ascii "text behind a closing quote, at ") p
fault-end (LoneReturn p) = placed_end (ascii "a carriage return without a line feed, at ") p
fault-end (NeverClosed p) = placed_end (ascii "a quote that is never closed, at ") p
fault-end (TooLong p) =
    rw append_assoc
    (unsafe-behind (placed (ascii "longer than 65,536 bytes, its last cell from ") p) (by_two 111 (λ e. omega arith) (record { front = ascii " "; is = refl })))
fault-end TooMany = by-words (ascii "more than 256 cell") 115 (λ e. omega arith)

row-end : (f : RowFault) → Unsafe (row_words f ++ (10 ∷ []))
unfolding row_words
row-end (Broken f) = fault-end f
row-end (Cells n m) = rw (append_assoc (placed [] n) (placed (ascii " cells where the header has ") m) (10 ∷ [])) (unsafe-behind (placed [] n) (placed_end (ascii " cells where the header has ") m))
row-end (BadUtf8 p) = placed_end (ascii "bytes that are not UTF-8, at ") p
row-end LongCell = by-words (ascii "a cell of more than 4,096 byte") 115 (λ e. omega arith)

unusable-end : (why : Unusable) → Unsafe (unusable_words why ++ (10 ∷ []))
unfolding unusable_words
unusable-end Empty = by-words (ascii "the file is empt") 121 (λ e. omega arith)
unusable-end NoColumn = by-words (ascii "the header has no column to chec") 107 (λ e. omega arith)
unusable-end Twice = by-words (ascii "the header has a column twic") 101 (λ e. omega arith)
unusable-end Returns = by-words (ascii "its lines end in carriage returns alon") 101 (λ e. omega arith)
unusable-end (NoRow f) = rw append_assoc (unsafe-behind (ascii "the header is no row: ") (row-end f))

unread-end : (why : Unusable) → Unsafe (unread_line why)
unfolding unread_line
unread-end why = unsafe-behind (ascii "could not be read: ") (unusable-end why)

-- ---- the report itself

-- the header of a file can not be used, or it can
pub data Heads (s : List ℕ) : Type 0 where
  unusable : (why : Unusable) → header true s ≡ Without why → Heads s
  usable : {bytes cells : ℕ} {sep : Separator} {columns : Columns} → header true s ≡ With bytes sep columns cells → Heads s

module _ (s : List ℕ) where
  by-header : (h : Header) → header true s ≡ h → Heads s
  by-header Wait e = absurd (header-decides s e)
  by-header (Without why) e = unusable why e
  by-header (With bytes sep columns cells) e = usable e

  pub heads : Heads s
  heads = by-header (header true s) refl

  unread-over : {why : Unusable} → header true s ≡ Without why → next true s fresh ≡ over (unread_line why)
  unfolding next step_in fresh start_step
  unread-over e = rw e

  with-over : (h : Header) {bytes cells : ℕ} {sep : Separator} {columns : Columns} {text : List ℕ} → h ≡ With bytes sep columns cells → start_step fresh s h ≡ over text → ⊥
  unfolding start_step
  with-over h e = rw e (λ f. let z : ◌≡◌ {A = ℕ} 0 1 = cc in omega arith)

  with-goes : {bytes cells : ℕ} {sep : Separator} {columns : Columns} {text : List ℕ} → header true s ≡ With bytes sep columns cells → next true s fresh ≡ over text → ⊥
  unfolding next step_in fresh
  with-goes e = with-over (header true s) e

read-lastly : {at : State} {s left lastly : List ℕ} {ps : List (Piece State)} {bytes cells : ℕ} {sep : Separator} {columns : Columns} → header true s ≡ With bytes sep columns cells
    → Reading next fresh s ps at left lastly → lastly ≡ last_lines at.tally
read-lastly h (ends {s = s} e) = absurd (with-goes s h e)
read-lastly h (piece {s = s} e r) = header-ends s e r

-- the report on a file whose header can not be used is one line, which says why
pub unread-said : (s : List ℕ) (why : Unusable) → header true s ≡ Without why → report s ≡ unread_line why
unread-said s why e = report-pieces (ends (unread-over s e))

-- which is not `safe to sign`
pub unread-unsafe : (s : List ℕ) (why : Unusable) → header true s ≡ Without why → SaysSafe s → ⊥
unread-unsafe s why h e = not-safe (unread-end why) (record { front = e.front; is = sym (unread-said s why h) ∙ e.is })

pub read-report : {s : List ℕ} {bytes cells : ℕ} {sep : Separator} {columns : Columns} → header true s ≡ With bytes sep columns cells → (r : Read next fresh s)
    → report s ≡ all_texts r.pieces ++ last_lines r.at.tally
read-report h r = report-pieces r.reading ∙ ap (λ (x : List ℕ). all_texts r.pieces ++ x) (read-lastly h r.reading)

-- that on a file whose header can be used ends with the numbers
pub read-said : (s : List ℕ) {bytes cells : ℕ} {sep : Separator} {columns : Columns} → header true s ≡ With bytes sep columns cells → (t : Tally) × EndsWith s t
read-said s h = let r = pieces_of s in (r.at.tally, record { lines = all_texts r.pieces; is = read-report h r })

-- and the pieces are all of the file
pub read_whole : {at : State} {s left lastly : List ℕ} {ps : List (Piece State)} {bytes cells : ℕ} {sep : Separator} {columns : Columns} → header true s ≡ With bytes sep columns cells
    → Reading next fresh s ps at left lastly → s ≡ all_bytes ps
read_whole {at} {s} {left} {lastly} {ps} h r = by_end (reading-closes r)
  where
    by_end : Closes at left lastly → s ≡ all_bytes ps
    by_end (in_full e f) = file-pieces r ∙ ap (λ (x : List ℕ). all_bytes ps ++ x) e ∙ append-nil (all_bytes ps)
    by_end (unread why f) =
        let t = at.tally in
        let e = ap (occurs 10) (sym f ∙ read-lastly h r) in
        absurd (omega (arith, e, unread-one why, summary-two t.rows t.strict t.otherwise t.refused t.bad))

-- a report that ends with `safe to sign` is the two last lines alone, and counts no finding
pub safe-alone : (s : List ℕ) → SaysSafe s → (t : Tally) × (report s ≡ last_lines t) × (found t ≡ 0)
safe-alone s e = by_heads (heads s)
  where
    by_heads : Heads s → (t : Tally) × (report s ≡ last_lines t) × (found t ≡ 0)
    by_heads (unusable why h) = absurd (unread-unsafe s why h e)
    by_heads (usable h) =
        let r = pieces_of s in
        let q = read-report h r in
        let z = safe-only (all_texts r.pieces) r.at.tally e.front (sym q ∙ e.is) in
        let n = lines_none r.reading z in
        (r.at.tally, q ∙ ap (λ (x : List ℕ). x ++ last_lines r.at.tally) n, z)

-- a report whose numbers have no finding ends with `safe to sign`
pub none-safe : (s : List ℕ) (t : Tally) → EndsWith s t → found t ≡ 0 → SaysSafe s
none-safe s t e z = let p = behind_it e.lines (last-safe t z) in record { front = p.front; is = e.is ∙ p.is }

-- and so does one that has the two last lines alone
pub alone-safe : (s : List ℕ) (t : Tally) → report s ≡ last_lines t → SaysSafe s
alone-safe s t e = by_heads (heads s)
  where
    two : occurs 10 (last_lines t) ≡ 2
    two = summary-two t.rows t.strict t.otherwise t.refused t.bad

    by_heads : Heads s → SaysSafe s
    by_heads (unusable why h) = let f = ap (occurs 10) (sym (unread-said s why h) ∙ e) in absurd (omega (arith, f, two, unread-one why))
    by_heads (usable h) =
        let r = pieces_of s in
        let q = read-report h r in
        let l = occurs-append 10 (all_texts r.pieces) (last_lines r.at.tally) in
        let m = summary-two r.at.tally.rows r.at.tally.strict r.at.tally.otherwise r.at.tally.refused r.at.tally.bad in
        let f : occurs 10 (last_lines t) ≡ occurs 10 (all_texts r.pieces ++ last_lines r.at.tally) = ap (occurs 10) (sym e ∙ q) in
        none-safe s r.at.tally (record { lines = all_texts r.pieces; is = q }) (silent-none r.reading (omega (arith, two)))
