-- How large what each field gives can be: a year of four digits, a stored month below 99, a stored day below 31. Assumes nothing.
use mathlib.Core.Path.{◌≡◌}
use mathlib.Core.Bool.{Bool, true, false, cond}
use mathlib.Core.List.{List}
use Prim.Native.Nat.{ℕ, zero, suc, ◌-◌, ◌^◌, ◌<◌}
use native.Mathlib.Omega.{arith}
use lib.Dec.{lit<, ltb}
use lib.IntN.{ℤ, pos, negsuc, nat_abs}
use Rattle.chars.proofs.Cases.{by-test}
use Rattle.refusals.specs.declared.TextRefusal.{TextRefusal}
use Rattle.refusals.specs.declared.Refusal.{Refusal}
use Rattle.refusals.specs.declared.FileSpan.{FileSpan}
use Rattle.scanner.specs.declared.Class.TheVariants.{Whitespace, AsciiAlphabetic, Is}
use Rattle.scanner.specs.declared.Cursor.{Cursor}
use Rattle.dates.specs.declared.Month.{Month}
use Rattle.numbers.specs.declared.NoNumber.{NoNumber}
use Rattle.std.specs.Prelude.{Option, Some, None, Result, Ok, Err}
use Rattle.scanner.specs.Scan.{eat_while, eat_if, part}
use Rattle.dates.specs.declared.Day.{Day}
use Rattle.dates.specs.Value.{month, day}
use Rattle.numbers.specs.declared.Digits.TheVariants.{OneOrTwo}
use Rattle.numbers.proofs.Laws.{Below, number, wrong, panics, unsigned-below}
use Rattle.numbers.specs.Trim.{trim}
use Rattle.numbers.specs.Parse.{parse}
use Rattle.numbers.proofs.Whole.{AtMost, at_most, no_number, parse-most}
use Rattle.fields.specs.Names.{month_for}
use Rattle.fields.proofs.Named.{MonthBelow, named-below}
use Rattle.fields.specs.declared.Sign.{Sign}
use Rattle.fields.specs.declared.Sign.TheVariants.{Minus, Plus}
use Rattle.fields.specs.Year.{signed_by, before_christ, on_past, ended, with_era, behind_digits, on_number, year_digits, year_from, behind_sign, year_at, get_year}
use Rattle.fields.specs.Month.{named, month_of, month_field}
use Rattle.fields.specs.Day.{is_day, day_of, day_digits, day_behind, day_at, day_from, day_in_month_field, day_given, day_field}
use Rattle.fields.proofs.Days.{day_in}

-- ---- the year

-- a year that was read has at most four digits
pub data YearIn : Result ℤ TextRefusal → Type 0 where
  year : {y : ℤ} → nat_abs y < 10000 → YearIn (Ok y)
  no_year : {e : TextRefusal} → YearIn (Err e)

signed-in : (sign : Option Sign) (n : ℕ) → n < 10000 → nat_abs (signed_by sign n) < 10000
signed-in None n h = h
signed-in (Some Plus) n h = h
signed-in (Some Minus) zero h = h
signed-in (Some Minus) (suc n) h = h

-- n BC is no further from zero than n
before-in : (n : ℕ) → n < 10000 → nat_abs (before_christ n) < 10000
before-in zero h = lit< tt
before-in (suc n) h = go (ltb 1 (suc n))
  where
    go : (t : Bool) → nat_abs (cond t (negsuc (suc n - suc 1)) (pos (1 - suc n))) < 10000
    go true = omega arith
    go false = omega arith

ended-in : (s : List ℕ) (idx at : ℕ) (y : ℤ) → nat_abs y < 10000 → YearIn (ended s idx at y)
unfolding ended
ended-in s idx at y h = by-test YearIn _ (λ _. year h) (λ _. no_year)

era-in : (s : List ℕ) (idx : ℕ) (sign : Option Sign) (n : ℕ) → n < 10000 → (e : Result (Option Bool × Cursor) TextRefusal) → YearIn (with_era s idx sign n e)
unfolding with_era
era-in s idx sign n h (Ok (Some positive, c)) =
    by-test YearIn _ (λ _. no_year) λ _.
    by-test YearIn _ (λ _. no_year) λ _.
    by-test YearIn _ (λ _. ended-in s idx c.0 (pos n) h) (λ _. year (before-in n h))
era-in s idx sign n h (Ok (None, c)) = ended-in s idx c.0 (signed_by sign n) (signed-in sign n h)
era-in s idx sign n h (Err e) = no_year

number_in : {p : Option ℕ} {go : ℕ → Result ℤ TextRefusal} → AtMost 9999 p → ((n : ℕ) → n < 10000 → YearIn (go n)) → YearIn (on_number p go)
unfolding on_number
number_in (at_most {v} h) g = g v (omega arith)
number_in no_number g = no_year

behind-in : (s : List ℕ) (idx at : ℕ) (sign : Option Sign) → YearIn (behind_sign s idx at sign)
unfolding behind_sign year_from year_digits behind_digits
behind-in s idx at sign =
    by-test YearIn _ (λ _. no_year) λ _.
    by-test YearIn _ (λ _. no_year) λ _.
    by-test YearIn _ (λ _. number_in (parse-most 9999 _) λ n h. era-in s idx sign n h _) (λ _. no_year)

past-in : (r : Option Cursor) {go : ℕ → Result ℤ TextRefusal} {else : Result ℤ TextRefusal} → ((c : ℕ) → YearIn (go c)) → YearIn else → YearIn (on_past r go else)
unfolding on_past
past-in (Some c) g h = g c.0
past-in None g h = h

-- of every text
pub year_in : (s : List ℕ) → YearIn (get_year s)
unfolding get_year year_at
year_in s =
    let idx = eat_while Whitespace s 0 in
    past-in (eat_if (Is 0x2D) s idx) (λ c. behind-in s idx c (Some Minus))
    (past-in (eat_if (Is 0x2B) s idx) (λ c. behind-in s idx c (Some Plus)) (behind-in s idx idx None))

-- ---- the month

-- a month that was read is absent or stored below 99: a number has two digits, and a name says one of twelve
pub data MonthIn : Result (Option Month × Cursor) TextRefusal → Type 0 where
  month_read : {m : Option Month} {c : Cursor} → MonthBelow 99 m → MonthIn (Ok (m, c))
  no_month : {e : TextRefusal} → MonthIn (Err e)

below_more : (m : Option Month) → MonthBelow 12 m → MonthBelow 99 m
below_more None h = tt
below_more (Some m) h = omega arith

parsed-in : (s : List ℕ) {p : Result (ℕ × Cursor) NoNumber} → Below (10 ^ 2) p → MonthIn (month_of s p)
unfolding month_of named
parsed-in s (number {v} h) = by-test MonthIn _ (λ _. no_month) (λ _. month_read {m = month (v - 1)} (omega arith))
parsed-in s (wrong {c}) =
    let t = part s c.0 (eat_while AsciiAlphabetic s c.0) in
    month_read (below_more (month_for t) (named-below t))
parsed-in s panics = no_month

-- of every text
pub month_in : (s : List ℕ) → MonthIn (month_field s)
unfolding month_field
month_in s = parsed-in s (unsigned-below s 0 OneOrTwo)

-- ---- the day

-- a stored day, if there is one, is below n
abbrev pub DayBelow : ℕ → Option Day → Type 0
DayBelow n None = Unit {0}
DayBelow n (Some d) = d.0 < n

-- a day that was read beside a month is absent or stored below 31
pub data DayIn : Result (Option Day) TextRefusal → Type 0 where
  day_read : {d : Option Day} → DayBelow 31 d → DayIn (Ok d)
  no_day : {e : TextRefusal} → DayIn (Err e)

stored-in : (d : ℕ) → is_day d ≡ true → d - 1 < 31
stored-in d e = let h = day_in d e in omega arith

day-of-in : (start end : ℕ) (p : Option ℕ) → DayIn (day_of start end p)
unfolding day_of
day-of-in start end (Some d) = by-test DayIn _ (λ e. day_read {d = day (d - 1)} (stored-in d e)) (λ _. no_day)
day-of-in start end None = no_day

-- of every text and place
pub inside-in : (s : List ℕ) (at : ℕ) → DayIn (day_in_month_field s at)
unfolding day_in_month_field day_from day_at day_behind day_digits
inside-in s at =
    by-test DayIn _
    (λ _. by-test DayIn _ (λ _. day_read {d = None} tt) (λ _. no_day))
    (λ _. day-of-in _ _ _)

-- a day field's day is stored below 31
pub data DayFieldIn : Result Day Refusal → Type 0 where
  given : {d : Day} → d.0 < 31 → DayFieldIn (Ok d)
  not_given : {e : Refusal} → DayFieldIn (Err e)

given-in : (span : FileSpan) (p : Option ℕ) → DayFieldIn (day_given span p)
unfolding day_given
given-in span (Some d) = by-test DayFieldIn _ (λ e. given (stored-in d e)) (λ _. not_given)
given-in span None = by-test DayFieldIn _ (λ _. not_given) (λ _. not_given)

-- of every text
pub field_in : (s : List ℕ) (span : FileSpan) → DayFieldIn (day_field s span)
unfolding day_field
field_in s span = given-in span (parse 255 (trim s))
