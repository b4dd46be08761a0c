-- What six cells say: of full ones that is just what was read, no more and no less, and six cells say one date at most. Assumes nothing.
use Prim.Native.Nat.{ℕ}
use mathlib.Core.Path.{◌≡◌, refl, sym, ap, subst, ◌∙◌}
use mathlib.Core.Bool.{Bool, true, false, false≢true, ◌||◌}
use mathlib.Core.List.{List, [], ◌∷◌}
use native.Mathlib.Omega.{arith}
use borrow.Author.Tests.{ltb-false, lt-ltb, le-leb, ne_eqb}
use lib.Dec.{leb}
use lib.IntN.{ℤ}
use lib.ListN.{length}
use Rattle.chars.specs.Pick.{pick}
use Rattle.chars.specs.Classes.{is_whitespace}
use Rattle.chars.proofs.Cases.{of_test, and-true}
use Rattle.scanner.specs.declared.Class.TheVariants.{Whitespace}
use Rattle.scanner.specs.Scan.{eat_while}
use Rattle.refusals.specs.declared.FileSpan.{FileSpan}
use Rattle.refusals.specs.declared.Refusal.{Refusal}
use Rattle.dates.specs.declared.Day.{Day}
use Rattle.dates.specs.declared.Month.{Month}
use Rattle.dates.specs.declared.Season.{Season}
use Rattle.dates.specs.declared.Time.{Time}
use Rattle.refusals.specs.declared.TextRefusal.{TextRefusal}
use Rattle.scanner.specs.declared.Cursor.{Cursor}
use Rattle.std.specs.Prelude.{Option, None, Result, Ok, Err}
use Rattle.dates.specs.declared.Datetime.{Datetime}
use Rattle.dates.specs.declared.DateValue.{DateValue}
use Rattle.dates.specs.declared.DateValue.TheVariants.{At, After, Before, Between}
use Rattle.dates.specs.declared.Date.{Date}
use Rattle.dates.specs.Value.{datetime, date, from_datetime}
use Rattle.chunks.specs.Check.{checked, or_else}
use Rattle.chunks.specs.Format.{is_break, formatted}
use Rattle.chunks.specs.Plain.{all_ascii, plain_byte, plain_text}
use Rattle.chunks.proofs.Answers.{plain-as-is}
use Rattle.chunks.proofs.Plains.{other-out, plainly}
use Rattle.datefield.specs.Text.{is_blank}
use Rattle.reading_laws.specs.Field.{on_clean}
use Rattle.reading_laws.specs.Fields.{parts_checked, fields_checked, moved_year, year_of, on_month, inside_day, month_text, month_alone, field_day, month_and_day, parts_of, dated, on_year, read_fields, three_fields}
use Rattle.roundtrip_laws.proofs.Bytes.{Each}
use Rattle.roundtrip_laws.proofs.Bytes.Each.{none as nothing, more}
use Rattle.roundtrip_laws.proofs.Fields.{no_day}
use Rattle.sixfields.specs.Six.{blank, judged, end_year_of, single, unmarked, on_three, between, on_end_year, with_end, six_fields}
use Rattle.verdicts.specs.declared.Verdict.TheVariants.{Full}
use Rattle.verdicts.specs.Dates.{cell_table}
use Rattle.verdicts.specs.Plain.{is_plain_year, is_plain_month, is_plain_day}
use Rattle.verdicts.specs.Fields.{Cells, cells, is_given, some_given, day_alone, behind_blank, is_unread, fields_of, six_read, are_plain, both_plain, six_verdict}
use Rattle.verdicts.proofs.Exactly.{six-full}
use Rattle.verdicts.specs.Means.{YearMeans, MonthMeans, DayMeans, Means, MeansIn}
use Rattle.verdicts.specs.Means.MonthMeans.{month_empty}
use Rattle.verdicts.specs.Means.DayMeans.{day_empty}
use Rattle.verdicts.proofs.Means.{IsPrinted, Usual, YearReads, year_read, year_refused, year-reads, MonthReads, month_read, month_refused, month-reads, DayReads, day_read, day_refused, day-reads, one_year, one_month, one_day}

-- a cell with a byte has a text
given : (b : ℕ) (s : List ℕ) → is_given (b ∷ s) ≡ true
given b s = lt-ltb 0 (length (b ∷ s)) (omega arith)

-- ---- a cell is clean, and formatted it is its text

unbroken : (x : ℕ) → IsPrinted x → is_break x ≡ false
unfolding is_break
unbroken x h = rw (ne_eqb x 0x0A (λ (e : x ≡ 0x0A). omega (arith, h.low)), ne_eqb x 0x0D (λ (e : x ≡ 0x0D). omega (arith, h.low)))

printed-text : (w : Bool) {s : List ℕ} → Each IsPrinted s → plain_text false w s ≡ s
unfolding plain_text plain_byte pick
printed-text w nothing = refl
printed-text w (more {x} h e) = rw (other-out false w x (unbroken x h), printed-text (is_whitespace x) e)

printed-ascii : {s : List ℕ} → Each IsPrinted s → all_ascii s ≡ true
unfolding all_ascii
printed-ascii nothing = refl
printed-ascii (more {x} h e) = rw (lt-ltb x 0x80 h.high, printed-ascii e)

as-it-is : (s : List ℕ) → Usual s → (checked s (cell_table s) ≡ Ok tt) × (formatted s (cell_table s) ≡ s)
as-it-is s u =
    let t = cell_table s in
    let p = plainly s t (record { four = refl; normal_kind = refl; whole = refl; small = omega (arith, u.short); ascii = printed-ascii u.printed }) in
    (p.clean, sym (plain-as-is s t {u = false} refl) ∙ p.text false ∙ printed-text false u.printed)

-- ---- three cells

-- what is read of the month's and the day's cells is what they say, or they are refused
data PartsRead (m d : List ℕ) : Result (Option Month × Option Day) Refusal → Type 0 where
  parts_read : {x : Option Month} {y : Option Day} → MonthMeans m x → DayMeans d y → PartsRead m d (Ok (x, y))
  parts_refused : {e : Refusal} → PartsRead m d (Err e)

-- and of all three
data ThreeRead (c : Cells) : Result Date Refusal → Type 0 where
  three_read : (a : Datetime) → Means c a → ThreeRead c (Ok (from_datetime a))
  three_refused : {e : Refusal} → ThreeRead c (Err e)

on-month : {m d : List ℕ} {r : Result (Option Month × Cursor) TextRefusal} (go : Option Month → ℕ → Result (Option Month × Option Day) Refusal) → MonthReads m r → ((x : Option Month) → MonthMeans m x → PartsRead m d (go x (length m))) → PartsRead m d (on_month r go)
unfolding on_month
on-month go (month_read {m = x} k) f = f x k
on-month go month_refused f = parts_refused

field-day : {m d : List ℕ} {x : Option Month} {r : Result Day Refusal} → MonthMeans m x → DayReads d r → PartsRead m d (field_day x r)
unfolding field_day
field-day k (day_read l) = parts_read k l
field-day k day_refused = parts_refused

dated-read : {c : Cells} {y : ℤ} {p : Result (Option Month × Option Day) Refusal} → YearMeans c.year y → PartsRead c.month c.day p → ThreeRead c (dated y p)
unfolding dated
dated-read {c} {y} k (parts_read {x = u} {y = v} l m) = three_read (datetime y u v None) (record { year = k; month = l; day = m; time = refl; season = refl })
dated-read k parts_refused = three_refused

on-year : {c : Cells} {r : Result ℤ TextRefusal} {p : Result (Option Month × Option Day) Refusal} (span : FileSpan) → YearReads c.year r → PartsRead c.month c.day p → ThreeRead c (on_year (moved_year span r) (λ y. dated y p))
unfolding on_year moved_year
on-year span (year_read k) l = dated-read k l
on-year span year_refused l = three_refused

-- the cells are plain, and no day stands without a month
record Plainly (c : Cells) : Type 0 where
  year : is_plain_year c.year ≡ true
  month : is_plain_month c.month ≡ true
  day : is_plain_day c.day ≡ true
  beside : day_alone c.month c.day ≡ false

three-cells : (y m d : List ℕ) → Plainly (cells y m d) → ThreeRead (cells y m d) (three_fields (fields_of (cells y m d)))
unfolding three_fields fields_checked parts_checked or_else on_clean read_fields year_of parts_of month_alone month_text inside_day month_and_day day_alone pick
three-cells y [] [] p =
    let a = year-reads y p.year in
    let b = as-it-is y a.0 in
    rw (b.0, b.1) (on-year _ a.1 (parts_read month_empty day_empty))
three-cells y [] (x ∷ d) p = absurd (false≢true (sym p.beside ∙ given x d))
three-cells y (x ∷ m) [] p =
    let a = year-reads y p.year in
    let b = as-it-is y a.0 in
    let k = month-reads (x ∷ m) p.month (omega arith) in
    let l = as-it-is (x ∷ m) k.0 in
    rw (given x m, b.0, b.1, l.0, l.1) (on-year _ a.1 (on-month _ k.1 λ z n. rw (no_day (x ∷ m)) (parts_read n day_empty)))
three-cells y (x ∷ m) (z ∷ d) p =
    let a = year-reads y p.year in
    let b = as-it-is y a.0 in
    let k = month-reads (x ∷ m) p.month (omega arith) in
    let l = as-it-is (x ∷ m) k.0 in
    let g = day-reads (z ∷ d) _ p.day (omega arith) in
    let h = as-it-is (z ∷ d) g.0 in
    rw (given x m, given z d, b.0, b.1, l.0, l.1, h.0, h.1) (on-year _ a.1 (on-month _ k.1 λ w n. field-day n g.1))

three-of : (c : Cells) → Plainly c → ThreeRead c (three_fields (fields_of c))
three-of c p = three-cells c.year c.month c.day p

-- ---- six cells

-- what is read of the six is what they say, or they are refused
data SixReads (start end : Cells) : Result Date Refusal → Type 0 where
  reads_six : {v : DateValue} → MeansIn start end v → SixReads start end (Ok (date v false false))
  six_refused : {e : Refusal} → SixReads start end (Err e)

none-given : (c : Cells) → length c.year ≡ 0 → behind_blank c ≡ false → some_given c ≡ false
unfolding behind_blank is_blank
none-given c l e =
    of_test (some_given c)
    (λ t. let z : leb (length c.year) (eat_while Whitespace c.year 0) ≡ false = rw t at e in absurd (false≢true (sym z ∙ le-leb (length c.year) _ (omega arith))))
    (λ f. f)

not_blank : (c : Cells) → is_given c.year ≡ true → behind_blank c ≡ false → is_blank c.year ≡ false
unfolding behind_blank some_given
not_blank c g e = rw g at e

module _ (start end : Cells) (q : Plainly end) (k : behind_blank end ≡ false) where
  on-end : (a : Datetime) → Means start a → is_given end.year ≡ true → {r : Result Date Refusal} → ThreeRead end r → SixReads start end (between a r)
  unfolding between on_three single unmarked
  on-end a m g (three_read b n) = reads_six {v = Between a b} (g, m, n)
  on-end a m g three_refused = six_refused

  with-end : (a : Datetime) → Means start a → SixReads start end (with_end a (is_given end.year) (fields_of end))
  unfolding with_end end_year_of judged on_end_year blank unmarked pick
  with-end a m =
      of_test (is_given end.year)
      (λ g.
      let u = as-it-is end.year (year-reads end.year q.year).0 in
      rw (g, u.0, u.1, not_blank end g k) (on-end a m g (three-of end q)))
      (λ g. rw g (reads_six {v = At a} (none-given end (omega (arith, ltb-false 0 (length end.year) g)) k, m)))

  on-start : {r : Result Date Refusal} → ThreeRead start r → SixReads start end (on_three r (λ a. with_end a (is_given end.year) (fields_of end)))
  unfolding on_three single
  on-start (three_read a m) = with-end a m
  on-start three_refused = six_refused

six-reads : (start end : Cells) → Plainly start → Plainly end → behind_blank end ≡ false → SixReads start end (six_read start end)
unfolding six_read six_fields
six-reads start end p q k = on-start start end q k (three-of start p)

pub or-false : (a b : Bool) → a || b ≡ false → (a ≡ false) × (b ≡ false)
or-false true b e = absurd (false≢true (sym e))
or-false false b e = (refl, e)

plainly-of : (c : Cells) → are_plain c ≡ true → day_alone c.month c.day ≡ false → Plainly c
unfolding are_plain
plainly-of c e f =
    let p = and-true (is_plain_year c.year) _ e in
    let q = and-true (is_plain_month c.month) _ p.1 in
    record { year = p.0; month = q.0; day = q.1; beside = f }

of-read : {start end : Cells} {d : Date} → SixReads start end (Ok d) → (v : DateValue) × (d ≡ date v false false) × MeansIn start end v
of-read (reads_six {v} m) = (v, refl, m)

-- ---- the theorems

-- A Date was read of cells that are full, and it is what they say: years, months and days by their numbers or names, nothing where a cell is
-- empty, an end if there is one, and no mark.
pub full-means : (start end : Cells) → six_verdict start end ≡ Full → (v : DateValue) × (six_read start end ≡ Ok (date v false false)) × MeansIn start end v
unfolding is_unread both_plain
full-means start end e =
    let p = (six-full start end).0 e in
    let s = p.1 in
    let u = or-false (day_alone start.month start.day) _ s.all in
    let v = or-false (behind_blank end) _ u.1 in
    let w = and-true (are_plain start) _ p.2 in
    let r = six-reads start end (plainly-of start w.0 u.0) (plainly-of end w.1 v.1) v.0 in
    let o = of-read (subst (SixReads start end) s.read r) in
    (o.0, s.read ∙ ap Ok o.1, o.2)

-- ---- six cells say one thing

abbrev whole : ℤ → Option Month → Option Day → Option Time → Option Season → Datetime
whole y m d t s = record { year = y; month = m; day = d; time = t; season = s }

one-datetime : {c : Cells} {a b : Datetime} → Means c a → Means c b → a ≡ b
one-datetime {c} {a} {b} m n =
    let y = one_year m.year n.year in
    let k = one_month m.month n.month in
    let d = one_day m.day n.day in
    let t : a.time ≡ b.time = m.time ∙ sym n.time in
    let s : a.season ≡ b.season = m.season ∙ sym n.season in
    let e : whole a.year a.month a.day a.time a.season ≡ whole b.year b.month b.day b.time b.season = rw (y, k, d, t, s) in
    e

not_given : (c : Cells) → some_given c ≡ false → is_given c.year ≡ true → ⊥
unfolding some_given
not_given c e g = false≢true (sym (or-false (is_given c.year) _ e).0 ∙ g)

-- Six cells say one date at most: what was read of full cells is the only one that they say.
pub one-meaning : (start end : Cells) (v w : DateValue) → MeansIn start end v → MeansIn start end w → v ≡ w
one-meaning start end (At a) (At b) m n = ap At (one-datetime m.1 n.1)
one-meaning start end (At a) (Between b c) m n = absurd (not_given end m.0 n.0)
one-meaning start end (Between a b) (At c) m n = absurd (not_given end n.0 m.0)
one-meaning start end (Between a b) (Between c d) m n =
    let p = one-datetime m.1 n.1 in
    let q = one-datetime m.2 n.2 in
    cc
one-meaning start end (After a) w m n = absurd m
one-meaning start end (Before a) w m n = absurd m
one-meaning start end (At a) (After b) m n = absurd n
one-meaning start end (At a) (Before b) m n = absurd n
one-meaning start end (Between a b) (After c) m n = absurd n
one-meaning start end (Between a b) (Before c) m n = absurd n
