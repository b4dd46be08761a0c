-- How long each line can be. Assumes nothing.
use mathlib.Core.Path.{◌≡◌}
use mathlib.Core.Bool.{Bool, true, false}
use mathlib.Core.List.{List, [], ◌∷◌}
use Prim.Native.Nat.{ℕ, ◌+◌, ◌*◌, ◌^◌, ◌≤◌, ◌<◌}
use native.Mathlib.Omega.{arith}
use lib.Dec.{leb, ltb, eqb}
use lib.ListN.{length, length-append}
use borrow.Author.Tests.{leb-true}
use Rattle.chars.specs.Pick.{pick}
use Rattle.chars.specs.Ascii.{ascii}
use Rattle.chars.proofs.Cases.{by-test}
use Rattle.refusals.specs.declared.Refusal.{Refusal}
use Rattle.refusals.specs.Refusal.{number, has_place}
use Rattle.puts.specs.Numbers.{digit_count, width, decimal}
use Rattle.puts.proofs.Counts.{few, length-decimal}
use Rattle.verdicts.specs.declared.Verdict.{Verdict}
use Rattle.verdicts.specs.declared.Verdict.TheVariants.{NoDate, Full, NotStrict, ShortYear, Unread, Refused}
use Rattle.csv_rows.specs.declared.Fault.{Fault}
use Rattle.csv_rows.specs.declared.Fault.TheVariants.{QuoteInside, TextBehind, LoneReturn, NeverClosed, TooLong, TooMany}
use Rattle.findings.specs.declared.Column.{Column}
use Rattle.findings.specs.declared.Column.TheVariants.{Date, Origdate, Eventdate, Urldate}
use Rattle.headers.specs.declared.RowFault.{RowFault}
use Rattle.headers.specs.declared.RowFault.TheVariants.{Broken, Cells, BadUtf8, LongCell}
use Rattle.headers.specs.declared.Unusable.{Unusable}
use Rattle.headers.specs.declared.Unusable.TheVariants.{Empty, NoColumn, Twice, Returns, NoRow}
use Rattle.findings.specs.Escapes.{is_hidden, is_marked, shown_byte, escaped, quoted}
use Rattle.verdicts.specs.Plain.{written_text}
use Rattle.findings.specs.Words.{capped, placed, kind_words, place_words, refusal_words, window_words, is_said, sort, message, fault_words, row_words}
use Rattle.findings.specs.Lines.{finding, verdict_line, column_name, date_line, named_cell, still_first, six_text, six_line, bad_row_line, signing, summary, unusable_words, unread_line}

-- ---- pieces

-- a text of at most so many bytes
data AtMost (k : ℕ) : List ℕ → Type 0 where
  most : {t : List ℕ} → length t ≤ k → AtMost k t

of-most : (k : ℕ) (t : List ℕ) → AtMost k t → length t ≤ k
of-most k t (most h) = h

-- one of two texts
either : (b : Bool) {k : ℕ} {x y : List ℕ} → AtMost k x → AtMost k y → AtMost k (pick b x y)
either b {k} h g = by-test (AtMost k) b (λ _. h) (λ _. g)

shown-most : (b : ℕ) → length (shown_byte b) ≤ 4
unfolding shown_byte
shown-most b = of-most 4 (shown_byte b) (either (is_hidden b) (most (omega arith)) (either (is_marked b) (most (omega arith)) (most (omega arith))))

-- a byte becomes at most four
pub escaped-most : (l : List ℕ) → length (escaped l) ≤ 4 * length l
unfolding escaped
escaped-most [] = omega arith
escaped-most (b ∷ l) = omega (arith, length-append (shown_byte b) (escaped l), shown-most b, escaped-most l)

pub quoted-most : (l : List ℕ) → length (quoted l) ≤ 4 * length l + 2
unfolding quoted
quoted-most l = let e = escaped-most l in simp length-append (omega arith)

decimal-most : (k n : ℕ) → 1 ≤ k → n < 10 ^ k → length (decimal 1 n) ≤ k
unfolding width
decimal-most k n h g =
    let f = few k n g in
    let w : width 1 n ≤ k = by-test (λ (x : ℕ). x ≤ k) (ltb (digit_count n) 1) (λ _. h) (λ _. f) in
    omega (arith, length-decimal 1 n, w)

-- a number of 32 bits has at most ten digits
count_most : (n : ℕ) → n < 4294967296 → length (decimal 1 n) ≤ 10
count_most n h = decimal-most 10 n (omega arith) (omega arith)

capped-most : (n : ℕ) → capped n < 4294967296
unfolding capped
capped-most n =
    by-test (λ (x : ℕ). x < 4294967296) (leb n 4294967295) (λ e. let h = leb-true n 4294967295 e in omega arith) (λ _. omega arith)

placed-most : (words : List ℕ) (n : ℕ) → length (placed words n) ≤ length words + 10
placed-most words n = omega (arith, length-append words (decimal 1 (capped n)), count_most (capped n) (capped-most n))

-- ---- words

kind-most : (n : ℕ) → length (kind_words n) ≤ 35
unfolding kind_words
kind-most n =
    of-most 35 (kind_words n)
    (either (eqb n 1) (most (omega arith))
    (either (eqb n 2) (most (omega arith))
    (either (eqb n 3) (most (omega arith))
    (either (eqb n 4) (most (omega arith))
    (either (eqb n 5) (most (omega arith))
    (either (eqb n 6) (most (omega arith))
    (either (eqb n 7) (most (omega arith))
    (either (eqb n 8) (most (omega arith))
    (either (eqb n 9) (most (omega arith))
    (either (eqb n 10) (most (omega arith))
    (either (eqb n 11) (most (omega arith))
    (either (eqb n 16) (most (omega arith))
    (most (omega arith))))))))))))))

place-most : (e : Refusal) → length (place_words e) ≤ 27
unfolding place_words
place-most e =
    let a = placed-most (ascii ", at ") e.place.0 in
    let b = placed-most (ascii "..") e.place.1 in
    of-most 27 (place_words e)
    (either (has_place e.kind)
    (most (omega (arith, length-append (placed (ascii ", at ") e.place.0) (placed (ascii "..") e.place.1), a, b)))
    (most (omega arith)))

refusal-most : (e : Refusal) → length (refusal_words e) ≤ 62
unfolding refusal_words
refusal-most e =
    omega (arith, length-append (kind_words (number e.kind)) (place_words e), kind-most (number e.kind), place-most e)

-- the Date of a verdict, if it has one, has a written text of at most 40 bytes
abbrev pub ShortText : Verdict → Type 0
ShortText NoDate = Unit {0}
ShortText Full = Unit {0}
ShortText (NotStrict d) = length (written_text d) ≤ 40
ShortText (ShortYear d) = length (written_text d) ≤ 40
ShortText Unread = Unit {0}
ShortText (Refused e) = Unit {0}

message-most : (v : Verdict) (windowed : Bool) → ShortText v → length (message v windowed) ≤ 140
unfolding message window_words
message-most NoDate windowed h = omega arith
message-most Full windowed h = omega arith
message-most (NotStrict d) windowed h =
    let w = of-most 51 (window_words windowed) (either windowed (most (omega arith)) (most (omega arith))) in
    simp length-append (omega arith)
message-most (ShortYear d) windowed h = simp length-append (omega arith)
message-most Unread windowed h = omega arith
message-most (Refused e) windowed h = omega (arith, refusal-most e)

sort-most : (v : Verdict) → length (sort v) ≤ 10
unfolding sort
sort-most NoDate = omega arith
sort-most Full = omega arith
sort-most (NotStrict d) = omega arith
sort-most (ShortYear d) = omega arith
sort-most Unread = omega arith
sort-most (Refused e) = omega arith

fault-most : (f : Fault) → length (fault_words f) ≤ 60
unfolding fault_words
fault-most (QuoteInside p) = omega (arith, placed-most (ascii "a quote in a cell that has none around it, at ") p)
fault-most (TextBehind p) = omega (arith, placed-most (ascii "text behind a closing quote, at ") p)
fault-most (LoneReturn p) = omega (arith, placed-most (ascii "a carriage return without a line feed, at ") p)
fault-most (NeverClosed p) = omega (arith, placed-most (ascii "a quote that is never closed, at ") p)
fault-most (TooLong p) =
    let t = ascii "longer than 65,536 bytes, its last cell from " in
    omega (arith, length-append (placed t p) (ascii " on"), placed-most t p)
fault-most TooMany = omega arith

row-most : (f : RowFault) → length (row_words f) ≤ 60
unfolding row_words
row-most (Broken f) = fault-most f
row-most (Cells n m) =
    let t = ascii " cells where the header has " in
    omega (arith, length-append (placed [] n) (placed t m), placed-most [] n, placed-most t m)
row-most (BadUtf8 p) = omega (arith, placed-most (ascii "bytes that are not UTF-8, at ") p)
row-most LongCell = omega arith

-- ---- lines

finding-length : (line : ℕ) (key column text kind words : List ℕ) → length (finding line key column text kind words) ≡ length (decimal 1 line) + length (escaped key) + length column + length text + length kind + length words + 6
unfolding finding
finding-length line key column text kind words = simp length-append (omega arith)

module _ (line : ℕ) (key : List ℕ) (v : Verdict) (small : line < 4294967296) (few-key : length key ≤ 4096) (short : ShortText v) where
  verdict-most : (column text : List ℕ) (windowed : Bool) → length (verdict_line line key column text v windowed) ≤ length column + length text + 16550
  unfolding verdict_line
  verdict-most column text windowed =
      let a = count_most line small in
      let b = escaped-most key in
      let c = sort-most v in
      let d = message-most v windowed short in
      of-most (length column + length text + 16550) (verdict_line line key column text v windowed)
      (either (is_said v)
      (most (omega (arith, finding-length line key column text (sort v) (message v windowed), a, b, c, d)))
      (most (omega arith)))

  column-most : (c : Column) → length (column_name c) ≤ 9
  unfolding column_name
  column-most Date = omega arith
  column-most Origdate = omega arith
  column-most Eventdate = omega arith
  column-most Urldate = omega arith

  -- a date in one cell, with a key and a cell of at most 4,096 bytes
  pub date-line-most : (column : Column) (cell : List ℕ) (windowed : Bool) → length cell ≤ 4096 → length (date_line line key column cell v windowed) ≤ 33200
  unfolding date_line
  date-line-most column cell windowed h =
      omega (arith, verdict-most (column_name column) (quoted cell) windowed, column-most column, quoted-most cell)

  named-most : (first : Bool) (name cell : List ℕ) → length name ≤ 8 → length cell ≤ 4096 → length (named_cell first name cell) ≤ 16397
  unfolding named_cell
  named-most first name cell g h =
      let q = quoted-most cell in
      let c = of-most 2 (pick first [] (ascii ", ")) (either first (most (omega arith)) (most (omega arith))) in
      of-most 16397 (named_cell first name cell)
      (either (eqb (length cell) 0) (most (omega arith)) (most (simp length-append (omega arith))))

  -- one in six cells of at most 4,096 bytes each
  pub six-line-most : (year month day end_year end_month end_day : List ℕ) → length year ≤ 4096 → length month ≤ 4096 → length day ≤ 4096 → length end_year ≤ 4096 → length end_month ≤ 4096 → length end_day ≤ 4096 → length (six_line line key year month day end_year end_month end_day v) ≤ 115600
  unfolding six_line six_text
  six-line-most year month day end_year end_month end_day hy hm hd hey hem hed =
      let a = still_first true year in
      let b = still_first a month in
      let c = still_first b day in
      let d = still_first c end_year in
      let e = still_first d end_month in
      let n1 = named-most true (ascii "year") year (omega arith) hy in
      let n2 = named-most a (ascii "month") month (omega arith) hm in
      let n3 = named-most b (ascii "day") day (omega arith) hd in
      let n4 = named-most c (ascii "endyear") end_year (omega arith) hey in
      let n5 = named-most d (ascii "endmonth") end_month (omega arith) hem in
      let n6 = named-most e (ascii "endday") end_day (omega arith) hed in
      let t = six_text year month day end_year end_month end_day in
      let l : length t ≤ 98382 = simp length-append (omega arith) in
      omega (arith, verdict-most (ascii "year") t false, l)

-- a row that can not be used
pub bad-row-most : (line : ℕ) (fault : RowFault) → line < 4294967296 → length (bad_row_line line fault) ≤ 200
unfolding bad_row_line escaped
bad-row-most line fault small =
    omega (arith, finding-length line [] [] [] (ascii "bad row") (row_words fault), count_most line small, row-most fault)

-- the two lines at the end
pub summary-most : (rows strict otherwise refused bad : ℕ) → rows < 4294967296 → strict < 4294967296 → otherwise < 4294967296 → refused < 4294967296 → bad < 4294967296 → length (summary rows strict otherwise refused bad) ≤ 200
unfolding summary signing
summary-most rows strict otherwise refused bad hr hs ho hf hb =
    let n = otherwise + refused + bad in
    let a = count_most rows hr in
    let b = decimal-most 11 (strict + otherwise + refused) (omega arith) (omega arith) in
    let c = count_most strict hs in
    let d = count_most otherwise ho in
    let e = count_most refused hf in
    let f = count_most bad hb in
    let g = decimal-most 11 n (omega arith) (omega arith) in
    let k = of-most 10 (pick (eqb n 1) (ascii " finding\n") (ascii " findings\n")) (either (eqb n 1) (most (omega arith)) (most (omega arith))) in
    let s = of-most 34 (signing n) (either (eqb n 0) (most (omega arith)) (most (simp length-append (omega arith)))) in
    simp length-append (omega arith)

-- the line of a file whose header can not be used
pub unread-most : (reason : Unusable) → length (unread_line reason) ≤ 200
unfolding unread_line unusable_words
unread-most Empty = omega arith
unread-most NoColumn = omega arith
unread-most Twice = omega arith
unread-most Returns = omega arith
unread-most (NoRow fault) = let r = row-most fault in simp length-append (omega arith)
