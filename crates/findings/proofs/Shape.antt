-- Each finding is one line of six fields: it has just one line feed, at its end, and just five tabs. A script may split it by them.
-- Assumes nothing.
use mathlib.Core.Path.{◌≡◌, refl, sym, ap, ◌∙◌}
use mathlib.Core.Bool.{Bool, true, false, false≢true, ◌&&◌, ◌||◌}
use mathlib.Core.List.{List, [], ◌∷◌, ◌++◌, append_assoc}
use mathlib.Core.Logic.{◌↔◌, ◌⊎◌, inl, inr, ⊎_elim}
use Prim.Native.Nat.{ℕ, zero, suc, ◌+◌, ◌/◌, ◌%◌, ◌≤◌, ◌<◌}
use native.Mathlib.Omega.{arith}
use lib.Dec.{leb, ltb, eqb}
use lib.IntN.{ℤ, pos, negsuc, nat_abs}
use lib.ListN.{length}
use borrow.Author.Tests.{le-leb, leb-true, ltb-false, ne_eqb}
use Rattle.chars.specs.Pick.{pick}
use Rattle.chars.specs.Ascii.{ascii}
use Rattle.chars.proofs.Cases.{by-test, and-true}
use Rattle.dates.specs.declared.Datetime.{Datetime}
use Rattle.dates.specs.declared.DateValue.{DateValue}
use Rattle.dates.specs.declared.DateValue.TheVariants.{At, After, Before, Between}
use Rattle.dates.specs.declared.Date.{Date}
use Rattle.refusals.specs.declared.Refusal.{Refusal}
use Rattle.refusals.specs.Refusal.{number, has_place}
use Rattle.std.specs.Prelude.{Result, Ok, Err}
use Rattle.puts.specs.Numbers.{digits, width, decimal}
use Rattle.puts.specs.Marks.{mark_text}
use Rattle.writer.specs.declared.Parts.{Parts}
use Rattle.writer.specs.declared.Parts.TheVariants.{NoParts, WithMonth, WithDay, TooLarge}
use Rattle.writer.specs.Texts.{minus, year_text, parts_of, part_text, hyphen_part, parts_text, datetime_text, value_text, date_text}
use Rattle.writer.specs.Answers.{date_measured}
use Rattle.answers.specs.Answer.{glyph}
use Rattle.verdicts.specs.declared.Verdict.{Verdict}
use Rattle.verdicts.specs.declared.Verdict.TheVariants.{NoDate, Full, NotStrict, ShortYear, Unread, Refused}
use Rattle.csv_rows.specs.declared.Fault.{Fault}
use Rattle.csv_rows.specs.declared.Fault.TheVariants.{QuoteInside, TextBehind, LoneReturn, NeverClosed, TooLong, TooMany}
use Rattle.findings.specs.declared.Column.{Column}
use Rattle.findings.specs.declared.Column.TheVariants.{Date as DateColumn, Origdate, Eventdate, Urldate}
use Rattle.headers.specs.declared.RowFault.{RowFault}
use Rattle.headers.specs.declared.RowFault.TheVariants.{Broken, Cells, BadUtf8, LongCell}
use Rattle.headers.specs.declared.Unusable.{Unusable}
use Rattle.headers.specs.declared.Unusable.TheVariants.{Empty, NoColumn, Twice, Returns, NoRow}
use Rattle.findings.specs.Escapes.{is_hidden, is_marked, shown_byte, escaped, quoted}
use Rattle.verdicts.specs.Plain.{text_if, written_text}
use Rattle.findings.specs.Words.{counted, capped, placed, kind_words, place_words, refusal_words, window_words, is_said, sort, message, fault_words, row_words}
use Rattle.findings.specs.Lines.{finding, verdict_line, column_name, date_line, named_cell, still_first, six_text, six_line, bad_row_line, signing, summary, unusable_words, unread_line}

-- how often a byte stands in a text
unfoldable pub occurs : ℕ → List ℕ → ℕ
occurs b [] = 0
occurs b (x ∷ l) = pick (eqb x b) 1 0 + occurs b l

-- one line of six fields
pub record OneLine (t : List ℕ) : Type 0 where
  -- five tabs
  pub tabs : occurs 9 t ≡ 5
  -- one line feed
  pub feeds : occurs 10 t ≡ 1
  -- with which it ends
  pub ended : (u : List ℕ) × (t ≡ u ++ (10 ∷ []))

-- whether all bytes of a text are at least 32
unfoldable pub visible : List ℕ → Bool
visible [] = true
visible (b ∷ l) = leb 32 b && visible l

-- they are
pub data Seen : List ℕ → Type 0 where
  seen : {t : List ℕ} → visible t ≡ true → Seen t

-- ---- what is seen

pub occurs-append : (b : ℕ) (s t : List ℕ) → occurs b (s ++ t) ≡ occurs b s + occurs b t
unfolding occurs
occurs-append b [] t = omega arith
occurs-append b (x ∷ s) t = let e = occurs-append b s t in omega arith

none_below : (b : ℕ) (t : List ℕ) → b < 32 → visible t ≡ true → occurs b t ≡ 0
unfolding occurs visible pick
none_below b [] h e = refl
none_below b (x ∷ t) h e =
    let p = and-true (leb 32 x) (visible t) e in
    let g = leb-true 32 x p.0 in
    let i = none_below b t h p.1 in
    rw (ne_eqb x b (λ (q : x ≡ b). omega arith)) (omega arith)

pub seen_none : (b : ℕ) {t : List ℕ} → b < 32 → Seen t → occurs b t ≡ 0
seen_none b {t} h (seen e) = none_below b t h e

visible-append : (s t : List ℕ) → visible s ≡ true → visible t ≡ true → visible (s ++ t) ≡ true
unfolding visible
visible-append [] t e f = f
visible-append (x ∷ s) t e f =
    let p = and-true (leb 32 x) (visible s) e in
    rw p.0 (visible-append s t p.1 f)

joins : {s t : List ℕ} → Seen s → Seen t → Seen (s ++ t)
joins {s} {t} (seen e) (seen f) = seen (visible-append s t e f)

one : (b : ℕ) → 32 ≤ b → Seen (b ∷ [])
unfolding visible
one b h = seen {t = b ∷ []} (rw (le-leb 32 b h))

pub none : Seen []
unfolding visible
none = seen refl

either : (b : Bool) {s t : List ℕ} → Seen s → Seen t → Seen (pick b s t)
either b p q = by-test Seen b (λ _. p) (λ _. q)

-- ---- pieces

digits-seen : (w n : ℕ) → Seen (digits w n)
digits-seen zero n = none
digits-seen (suc w) n = joins (digits-seen w (n / 10)) (one (48 + n % 10) (omega arith))

pub decimal-seen : (least n : ℕ) → Seen (decimal least n)
unfolding decimal
decimal-seen least n = digits-seen (width least n) n

glyph-least : (d : ℕ) → 32 ≤ glyph d
unfolding glyph
glyph-least d = by-test (λ (x : ℕ). 32 ≤ x) (ltb d 10) (λ _. omega arith) (λ _. omega arith)

or-false : (p q : Bool) → p || q ≡ false → p ≡ false
or-false true q e = e
or-false false q e = refl

shown-seen : (b : ℕ) → Seen (shown_byte b)
unfolding shown_byte is_hidden visible
shown-seen b =
    by-test Seen (is_hidden b)
    (λ _. joins (seen {t = ascii "\\x"} refl) (joins (one (glyph (b / 16)) (glyph-least (b / 16))) (one (glyph (b % 16)) (glyph-least (b % 16)))))
    (λ e.
    let h = ltb-false b 32 (or-false (ltb b 32) (eqb b 127) e) in
    either (is_marked b) (joins (seen {t = ascii "\\"} refl) (one b h)) (one b h))

pub escaped-seen : (l : List ℕ) → Seen (escaped l)
unfolding escaped
escaped-seen [] = none
escaped-seen (b ∷ l) = joins (shown-seen b) (escaped-seen l)

pub quoted-seen : (l : List ℕ) → Seen (quoted l)
unfolding quoted
quoted-seen l = joins (one 34 (omega arith)) (joins (escaped-seen l) (one 34 (omega arith)))

placed-seen : (words : List ℕ) (n : ℕ) → visible words ≡ true → Seen (placed words n)
placed-seen words n e = joins (seen e) (decimal-seen 1 (capped n))

-- ---- the written text of a Date

year-seen : (y : ℤ) → Seen (year_text y)
unfolding year_text minus visible
year-seen (pos n) = decimal-seen 4 n
year-seen (negsuc n) = joins (seen {t = ascii "-"} refl) (decimal-seen 4 (nat_abs (negsuc n)))

hyphen-seen : (n : ℕ) → Seen (hyphen_part n)
unfolding hyphen_part part_text visible
hyphen-seen n = joins (seen {t = ascii "-"} refl) (decimal-seen 2 n)

parts_seen : (p : Parts) → Seen (parts_text p)
unfolding parts_text
parts_seen NoParts = none
parts_seen (WithMonth m) = hyphen-seen m.0
parts_seen (WithDay m d) = joins (hyphen-seen m.0) (hyphen-seen d.0)
parts_seen TooLarge = none

end_seen : (d : Datetime) → Seen (datetime_text d)
unfolding datetime_text
end_seen d = joins (year-seen d.year) (parts_seen (parts_of d))

value-seen : (v : DateValue) → Seen (value_text v)
unfolding value_text visible
value-seen (At d) = end_seen d
value-seen (After d) = joins (end_seen d) (seen {t = ascii "/.."} refl)
value-seen (Before d) = joins (seen {t = ascii "../"} refl) (end_seen d)
value-seen (Between a b) = joins (joins (end_seen a) (seen {t = ascii "/"} refl)) (end_seen b)

mark-seen : (u a : Bool) → Seen (mark_text u a)
unfolding mark_text visible
mark-seen true true = seen refl
mark-seen false true = seen refl
mark-seen true false = seen refl
mark-seen false false = seen refl

date-seen : (d : Date) → Seen (date_text d)
unfolding date_text
date-seen d = joins (value-seen d.value) (mark-seen d.uncertain d.approximate)

text-seen : (m : Result ℕ Refusal) {t : List ℕ} → Seen t → Seen (text_if m t)
unfolding text_if
text-seen (Ok n) p = p
text-seen (Err e) p = none

written-seen : (d : Date) → Seen (written_text d)
unfolding written_text
written-seen d = text-seen (date_measured d (date_text d)) (date-seen d)

-- ---- words

kind-seen : (n : ℕ) → Seen (kind_words n)
unfolding kind_words visible
kind-seen n =
    either (eqb n 1) (seen refl)
    (either (eqb n 2) (seen refl)
    (either (eqb n 3) (seen refl)
    (either (eqb n 4) (seen refl)
    (either (eqb n 5) (seen refl)
    (either (eqb n 6) (seen refl)
    (either (eqb n 7) (seen refl)
    (either (eqb n 8) (seen refl)
    (either (eqb n 9) (seen refl)
    (either (eqb n 10) (seen refl)
    (either (eqb n 11) (seen refl) (either (eqb n 16) (seen refl) (seen refl))))))))))))

refusal-seen : (e : Refusal) → Seen (refusal_words e)
unfolding refusal_words place_words visible
refusal-seen e =
    joins (kind-seen (number e.kind))
    (either (has_place e.kind) (joins (placed-seen (ascii ", at ") e.place.0 refl) (placed-seen (ascii "..") e.place.1 refl)) none)

pub sort-seen : (v : Verdict) → Seen (sort v)
unfolding sort visible
sort-seen NoDate = none
sort-seen Full = none
sort-seen (NotStrict d) = seen refl
sort-seen (ShortYear d) = seen refl
sort-seen Unread = seen refl
sort-seen (Refused e) = seen refl

pub message-seen : (v : Verdict) (windowed : Bool) → Seen (message v windowed)
unfolding message window_words visible
message-seen NoDate windowed = none
message-seen Full windowed = none
message-seen (NotStrict d) windowed =
    joins (seen {t = ascii "not a full date; the typesetting run would print "} refl)
    (joins (written-seen d) (either windowed (seen refl) none))
message-seen (ShortYear d) windowed =
    joins (seen {t = ascii "a year of fewer than four digits is read as it stands; the typesetting run would print "} refl) (written-seen d)
message-seen Unread windowed = seen refl
message-seen (Refused e) windowed = refusal-seen e

fault-seen : (f : Fault) → Seen (fault_words f)
unfolding fault_words visible
fault-seen (QuoteInside p) = placed-seen (ascii "a quote in a cell that has none around it, at ") p refl
fault-seen (TextBehind p) = placed-seen (ascii "text behind a closing quote, at ") p refl
fault-seen (LoneReturn p) = placed-seen (ascii "a carriage return without a line feed, at ") p refl
fault-seen (NeverClosed p) = placed-seen (ascii "a quote that is never closed, at ") p refl
fault-seen (TooLong p) =
    joins (placed-seen (ascii "longer than 65,536 bytes, its last cell from ") p refl) (seen {t = ascii " on"} refl)
fault-seen TooMany = seen refl

pub row_seen : (f : RowFault) → Seen (row_words f)
unfolding row_words visible
row_seen (Broken f) = fault-seen f
row_seen (Cells n m) = joins (placed-seen [] n refl) (placed-seen (ascii " cells where the header has ") m refl)
row_seen (BadUtf8 p) = placed-seen (ascii "bytes that are not UTF-8, at ") p refl
row_seen LongCell = seen refl

-- ---- lines

-- a finding whose fields are seen
module _ (line : ℕ) (key column text kind words : List ℕ) (sc : Seen column) (st : Seen text) (sk : Seen kind) (sw : Seen words) where
  finding-one : OneLine (finding line key column text kind words)
  unfolding finding occurs pick
  finding-one =
      record {
        tabs =
            let a = seen_none 9 (omega arith) (decimal-seen 1 line) in
            let b = seen_none 9 (omega arith) (escaped-seen key) in
            let c = seen_none 9 (omega arith) sc in
            let d = seen_none 9 (omega arith) st in
            let e = seen_none 9 (omega arith) sk in
            let f = seen_none 9 (omega arith) sw in
            simp occurs-append (omega arith);
        feeds =
            let a = seen_none 10 (omega arith) (decimal-seen 1 line) in
            let b = seen_none 10 (omega arith) (escaped-seen key) in
            let c = seen_none 10 (omega arith) sc in
            let d = seen_none 10 (omega arith) st in
            let e = seen_none 10 (omega arith) sk in
            let f = seen_none 10 (omega arith) sw in
            simp occurs-append (omega arith);
        ended = (
          decimal 1 line ++ (9 ∷ (escaped key ++ (9 ∷ (column ++ (9 ∷ (text ++ (9 ∷ (kind ++ (9 ∷ words))))))))),
          simp append_assoc,
        );
      }

-- that of a verdict which says something
verdict-one : (line : ℕ) (key column text : List ℕ) (v : Verdict) (windowed : Bool) → Seen column → Seen text → is_said v ≡ true → OneLine (verdict_line line key column text v windowed)
unfolding verdict_line pick
verdict-one line key column text v windowed sc st e =
    rw e (finding-one line key column text (sort v) (message v windowed) sc st (sort-seen v) (message-seen v windowed))

pub column-seen : (c : Column) → Seen (column_name c)
unfolding column_name visible
column-seen DateColumn = seen refl
column-seen Origdate = seen refl
column-seen Eventdate = seen refl
column-seen Urldate = seen refl

-- what is said of a date in one cell is one line
pub date-one : (line : ℕ) (key : List ℕ) (column : Column) (cell : List ℕ) (v : Verdict) (windowed : Bool) → is_said v ≡ true → OneLine (date_line line key column cell v windowed)
unfolding date_line
date-one line key column cell v windowed e =
    verdict-one line key (column_name column) (quoted cell) v windowed (column-seen column) (quoted-seen cell) e

named-seen : (first : Bool) (name cell : List ℕ) → Seen name → Seen (named_cell first name cell)
unfolding named_cell visible
named-seen first name cell p =
    either (eqb (length cell) 0) none
    (joins (either first none (seen {t = ascii ", "} refl)) (joins p (joins (seen {t = ascii " "} refl) (quoted-seen cell))))

pub six-seen : (year month day end_year end_month end_day : List ℕ) → Seen (six_text year month day end_year end_month end_day)
unfolding six_text visible
six-seen year month day end_year end_month end_day =
    let a = still_first true year in
    let b = still_first a month in
    let c = still_first b day in
    let d = still_first c end_year in
    let e = still_first d end_month in
    joins (named-seen true (ascii "year") year (seen refl))
    (joins (named-seen a (ascii "month") month (seen refl))
    (joins (named-seen b (ascii "day") day (seen refl))
    (joins (named-seen c (ascii "endyear") end_year (seen refl))
    (joins (named-seen d (ascii "endmonth") end_month (seen refl)) (named-seen e (ascii "endday") end_day (seen refl))))))

-- of one in six cells
pub six-one : (line : ℕ) (key year month day end_year end_month end_day : List ℕ) (v : Verdict) → is_said v ≡ true → OneLine (six_line line key year month day end_year end_month end_day v)
unfolding six_line visible
six-one line key year month day end_year end_month end_day v e =
    verdict-one line key (ascii "year") (six_text year month day end_year end_month end_day) v false (seen refl) (six-seen year month day end_year end_month end_day) e

-- of a row that can not be used
pub bad-row-one : (line : ℕ) (fault : RowFault) → OneLine (bad_row_line line fault)
unfolding bad_row_line visible
bad-row-one line fault = finding-one line [] [] [] (ascii "bad row") (row_words fault) none none (seen refl) (row_seen fault)

-- ---- what says nothing

-- no date and a full one have no line
unsaid : (line : ℕ) (key column text : List ℕ) (v : Verdict) (windowed : Bool) → is_said v ≡ false → verdict_line line key column text v windowed ≡ []
unfolding verdict_line pick
unsaid line key column text v windowed e = rw e

pub date-unsaid : (line : ℕ) (key : List ℕ) (column : Column) (cell : List ℕ) (v : Verdict) (windowed : Bool) → is_said v ≡ false → date_line line key column cell v windowed ≡ []
unfolding date_line
date-unsaid line key column cell v windowed e = unsaid line key (column_name column) (quoted cell) v windowed e

pub six-unsaid : (line : ℕ) (key year month day end_year end_month end_day : List ℕ) (v : Verdict) → is_said v ≡ false → six_line line key year month day end_year end_month end_day v ≡ []
unfolding six_line
six-unsaid line key year month day end_year end_month end_day v e =
    unsaid line key (ascii "year") (six_text year month day end_year end_month end_day) v false e

-- which verdicts say something: all but no date and a full one
pub said-or-not : (v : Verdict) → (is_said v ≡ false) ↔ ((v ≡ NoDate) ⊎ (v ≡ Full))
unfolding is_said
said-or-not NoDate = (λ _. inl refl, λ _. refl)
said-or-not Full = (λ _. inr refl, λ _. refl)
said-or-not (NotStrict d) = (λ e. absurd (false≢true (sym e)), λ h. ⊎_elim (λ q. ap is_said q) (λ q. ap is_said q) h)
said-or-not (ShortYear d) = (λ e. absurd (false≢true (sym e)), λ h. ⊎_elim (λ q. ap is_said q) (λ q. ap is_said q) h)
said-or-not Unread = (λ e. absurd (false≢true (sym e)), λ h. ⊎_elim (λ q. ap is_said q) (λ q. ap is_said q) h)
said-or-not (Refused x) = (λ e. absurd (false≢true (sym e)), λ h. ⊎_elim (λ q. ap is_said q) (λ q. ap is_said q) h)

-- ---- the lines at the end

counted-seen : (words : List ℕ) (n : ℕ) → visible words ≡ true → Seen (counted words n)
counted-seen words n e = joins (seen e) (decimal-seen 1 n)

unusable-seen : (why : Unusable) → Seen (unusable_words why)
unfolding unusable_words visible
unusable-seen Empty = seen refl
unusable-seen NoColumn = seen refl
unusable-seen Twice = seen refl
unusable-seen Returns = seen refl
unusable-seen (NoRow f) = joins (seen {t = ascii "the header is no row: "} refl) (row_seen f)

-- a byte below 32, which a line feed may be
module _ (b : ℕ) (low : b < 32) where
  seen-before : {s : List ℕ} (t : List ℕ) → Seen s → occurs b (s ++ t) ≡ occurs b t
  seen-before {s} t p = let h = seen_none b low p in let l = occurs-append b s t in omega arith

  ended-has : {t : List ℕ} → Seen t → occurs b (t ++ (10 ∷ [])) ≡ occurs b (10 ∷ [])
  ended-has {t} s = seen-before (10 ∷ []) s

  signing-has : (n : ℕ) → occurs b (signing n) ≡ occurs b (10 ∷ [])
  unfolding signing visible
  signing-has n =
      by-test (λ (t : List ℕ). occurs b t ≡ occurs b (10 ∷ [])) (eqb n 0) (λ _. ended-has (seen {t = ascii "safe to sign"} refl))
      (λ _.
      seen-before _ (counted-seen (ascii "do not sign: ") n refl)
      ∙ by-test (λ (t : List ℕ). occurs b t ≡ occurs b (10 ∷ [])) (eqb n 1) (λ _. ended-has (seen {t = ascii " finding"} refl)) (λ _. ended-has (seen {t = ascii " findings"} refl)))

  summary-has : (rows strict otherwise refused bad : ℕ) → occurs b (summary rows strict otherwise refused bad) ≡ occurs b (10 ∷ []) + occurs b (10 ∷ [])
  unfolding summary visible
  summary-has rows strict otherwise refused bad =
      seen-before _ (counted-seen (ascii "rows ") rows refl)
      ∙ seen-before _ (counted-seen (ascii ", dates ") (strict + otherwise + refused) refl)
      ∙ seen-before _ (counted-seen (ascii ", strict ") strict refl)
      ∙ seen-before _ (counted-seen (ascii ", read otherwise ") otherwise refl)
      ∙ seen-before _ (counted-seen (ascii ", refused ") refused refl)
      ∙ seen-before _ (counted-seen (ascii ", bad rows ") bad refl)
      ∙ occurs-append b (10 ∷ []) (signing (otherwise + refused + bad))
      ∙ ap (λ (n : ℕ). occurs b (10 ∷ []) + n) (signing-has (otherwise + refused + bad))

  unread-has : (why : Unusable) → occurs b (unread_line why) ≡ occurs b (10 ∷ [])
  unfolding unread_line visible
  unread-has why = seen-before _ (seen {t = ascii "could not be read: "} refl) ∙ ended-has (unusable-seen why)

-- the lines at the end are two
pub summary-two : (rows strict otherwise refused bad : ℕ) → occurs 10 (summary rows strict otherwise refused bad) ≡ 2
unfolding occurs pick
summary-two rows strict otherwise refused bad = summary-has 10 (omega arith) rows strict otherwise refused bad

-- and have no tab
pub summary-untabbed : (rows strict otherwise refused bad : ℕ) → occurs 9 (summary rows strict otherwise refused bad) ≡ 0
unfolding occurs pick
summary-untabbed rows strict otherwise refused bad = summary-has 9 (omega arith) rows strict otherwise refused bad

-- that of a file whose header can not be used is one
pub unread-one : (why : Unusable) → occurs 10 (unread_line why) ≡ 1
unfolding occurs pick
unread-one why = unread-has 10 (omega arith) why
