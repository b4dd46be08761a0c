-- Every X text of the strict grammar is read by the ported reader as the range that the grammar says, but for the end of days in a month
-- under 31 days.
-- Assumes nothing.
use mathlib.Core.Path.{◌≡◌, ap, ◌∙◌}
use mathlib.Core.Bool.{true, false}
use mathlib.Core.List.{List, [], ◌∷◌, ◌++◌}
use mathlib.Core.Logic.{inl, inr}
use Prim.Native.Nat.{ℕ, ◌+◌, ◌/◌, ◌%◌, ◌≤◌, ◌<◌}
use native.Mathlib.Omega.{arith}
use native.Mathlib.Decide.{dec_lt}
use borrow.Author.Tests.{ne_eqb, lt-ltb, le-ltb, lt-leb}
use lib.Dec.{lit<}
use lib.IntN.{pos}
use lib.ListN.{length, length-append}
use Rattle.chars.specs.Pick.{pick}
use Rattle.scanner.specs.declared.Class.TheVariants.{Whitespace, AsciiDigit, Is}
use Rattle.scanner.specs.Class.{in_class}
use Rattle.scanner.specs.Scan.{eat_while, done_at, part}
use Rattle.scanner.proofs.Laws.{not_white}
use Rattle.scanner.proofs.Digits.{below-digits, above-digits, is-it, is-other}
use Rattle.scanner.proofs.Front.{From, from_start, from-behind, front-inside, front-done, front_rest, front-go, front-stop, front-end}
use Rattle.refusals.specs.declared.FileSpan.{FileSpan}
use Rattle.numbers.proofs.Reading.{bytes, value as number, AreDigits, digit-white}
use Rattle.dates.specs.declared.DateValue.{DateValue}
use Rattle.dates.specs.Calendar.{month_length}
use Rattle.dates.proofs.Lengths.{length_most}
use Rattle.dates.specs.declared.Datetime.{Datetime}
use Rattle.refusals.specs.declared.TextRefusal.{TextRefusal}
use Rattle.std.specs.Prelude.{Some, Result, Ok}
use Rattle.numbers.specs.Parse.{parse}
use Rattle.points.proofs.Back.{two, two_digits, two-value, lead, three, four, four_digits, four-value}
use Rattle.xranges.specs.Range.{get_hyphen, on_hyphen, on_value, years, months, days, second_run, second_at, behind_months, end_of_days, day_run, behind_month, month_run, month, months_run, behind_year, year_run, digit_run, range_from, range_dates}
use Rattle.xranges.proofs.Hyphens.{one-hyphen}
use Rattle.datefield.specs.Value.{x_range, value}
use Rattle.strict.specs.Grammar.{last_day, field, Unknown, dd_xx, ddd_x, dddd_XX, dddd_XX_XX}
use Rattle.strict.specs.Grammar
use Rattle.roundtrip_laws.specs.Domain.{days_upto, dddd_mm_XX}
use Rattle.roundtrip_laws.specs.Ported.{PortedReads}
use Rattle.roundtrip_laws.proofs.Bytes.{Each, each_append, each-bytes, InPoint, point-digit, minus-in, without-x, first_some}
use Rattle.roundtrip_laws.proofs.Bytes.Each.{none as no_more, more}
use Rattle.roundtrip_laws.proofs.Runs.{Stops, none, other, run_none, ascii_run, ascii-part, parse-is}

-- an X stands in the text
has-x : (span : FileSpan) {u : List ℕ} (t : List ℕ) → Each InPoint u → value span (u ++ 0x58 ∷ t) ≡ x_range span (range_dates (u ++ 0x58 ∷ t))
unfolding value pick
has-x span {u} t b =
    rw (first_some 0x58 t (without-x b), lt-ltb (length u) (length (u ++ 0x58 ∷ t)) (rw length-append (omega arith)))

-- the classes of an X and of a hyphen
x-x : in_class (Is 0x58) 0x58 ≡ true
x-x = is-it 0x58

digit-x : (d : ℕ) → d < 10 → in_class (Is 0x58) (48 + d) ≡ false
digit-x d h = is-other 0x58 (48 + d) (λ (e : 48 + d ≡ 0x58). omega arith)

hyphen-x : {t : List ℕ} → Stops (Is 0x58) (0x2D ∷ t)
hyphen-x = other (lit< tt) (is-other 0x58 0x2D (λ (e : ◌≡◌ {A = ℕ} 0x2D 0x58). omega arith))

x-ascii : {t : List ℕ} → Stops AsciiDigit (0x58 ∷ t)
x-ascii = other (lit< tt) (above-digits 0x58 (lit< tt))

hyphen-ascii : {t : List ℕ} → Stops AsciiDigit (0x2D ∷ t)
hyphen-ascii = other (lit< tt) (below-digits 0x2D (lit< tt))

-- runs of X
one-x : {s t : List ℕ} {i : ℕ} → Stops (Is 0x58) t → From s i (0x58 ∷ t) → eat_while (Is 0x58) s i ≡ i + 1
one-x b f = front-go f (Is 0x58) (lit< tt) x-x ∙ run_none b (front_rest f)

two-x : {s t : List ℕ} {i : ℕ} → Stops (Is 0x58) t → From s i (0x58 ∷ 0x58 ∷ t) → eat_while (Is 0x58) s i ≡ i + 2
two-x b f = front-go f (Is 0x58) (lit< tt) x-x ∙ one-x b (front_rest f) ∙ omega arith

-- the sure digits, and the run of X behind them
module _ (d : ℕ) (ds : List ℕ) {s t : List ℕ} (h : AreDigits (d ∷ ds)) (b : Stops AsciiDigit t) (f : From s 0 (bytes (d ∷ ds) ++ t)) where
  range-from : range_dates s ≡ digit_run s 0 (0 + length (d ∷ ds))
  unfolding range_dates range_from
  range-from = rw (digit-white h.0 f, ascii_run (d ∷ ds) h b f)

  sure : (n : ℕ) → number 0 (d ∷ ds) ≡ n → n ≤ 9999 → parse 9999 (part s 0 (0 + length (d ∷ ds))) ≡ Some n
  sure n e l = rw (ascii-part (d ∷ ds) t f, parse-is d ds 9999 h (omega arith), e)

three-value : (n : ℕ) → n < 1000 → number 0 (three n) ≡ n
three-value n h = omega arith

-- a century
century : (n : ℕ) {s : List ℕ} → n < 100 → From s 0 (bytes (two n) ++ (0x58 ∷ 0x58 ∷ [])) → range_dates s ≡ years n 100
unfolding digit_run year_run on_value pick
century n h f =
    let e = two_digits n in
    rw (
      range-from (n / 10 % 10) ((n % 10) ∷ []) e x-ascii f,
      two-x none (from-behind (bytes (two n)) f),
      sure (n / 10 % 10) ((n % 10) ∷ []) e x-ascii f n (two-value n h) (omega arith),
    )

-- a decade
decade : (n : ℕ) {s : List ℕ} → n < 1000 → From s 0 (bytes (three n) ++ (0x58 ∷ [])) → range_dates s ≡ years n 10
unfolding digit_run year_run on_value pick
decade n h f =
    let e = (four_digits n).1 in
    rw (
      range-from (n / 10 / 10 % 10) (two n) e x-ascii f,
      one-x none (from-behind (bytes (three n)) f),
      sure (n / 10 / 10 % 10) (two n) e x-ascii f n (three-value n h) (omega arith),
    )

-- a year of four digits, and a hyphen behind it
whole-year : (n : ℕ) {s t : List ℕ} → n < 10000 → From s 0 (bytes (four n) ++ 0x2D ∷ t) → range_dates s ≡ behind_year s 4 n
unfolding digit_run year_run on_value pick
whole-year n h f =
    let e = four_digits n in
    rw (
      range-from (lead n) (three n) e hyphen-ascii f,
      run_none hyphen-x (from-behind (bytes (four n)) f),
      sure (lead n) (three n) e hyphen-ascii f n (four-value n h) (omega arith),
    )

-- behind a hyphen: an X or a digit
x-behind : {s t : List ℕ} {i : ℕ} (go : ℕ → Result (Datetime × Datetime) TextRefusal) → From s i (0x2D ∷ 0x58 ∷ t) → on_hyphen (get_hyphen s i) go ≡ go (i + 1)
x-behind go f = one-hyphen go (lit< tt) (lit< tt) (λ (e : ◌≡◌ {A = ℕ} 0x58 0x2D). omega arith) f

module _ {s : List ℕ} {i : ℕ} (f : From s i []) where
  no-white : eat_while Whitespace s i ≡ i
  no-white = front-end f Whitespace

  at-end : done_at s i ≡ true
  at-end = front-done f

-- XX for the months, at the end or before a second XX
months-x : (n : ℕ) {s t : List ℕ} → Stops (Is 0x58) t → From s 4 (0x2D ∷ 0x58 ∷ 0x58 ∷ t) → behind_year s 4 n ≡ behind_months s 7 n
unfolding behind_year months_run pick
months-x n b f = rw (x-behind _ f, two-x b (front_rest f))

months-end : (n : ℕ) {s : List ℕ} {i : ℕ} → From s i [] → behind_months s i n ≡ months n
unfolding behind_months second_at pick
months-end n f = rw (no-white f, at-end f)

months-second : (n : ℕ) {s : List ℕ} → From s 7 (0x2D ∷ 0x58 ∷ 0x58 ∷ []) → behind_months s 7 n ≡ months n
unfolding behind_months second_at second_run done_at pick
months-second n {s} f =
    rw (
      front-stop f Whitespace (lit< tt) (not_white 0x2D (lit< tt) (lit< tt)),
      lt-leb (length s) 7 (front-inside f),
      x-behind _ f,
      two-x none (front_rest f),
    )

-- a month of two digits, and XX for its days
module _ (n m : ℕ) (h : m < 12) {s : List ℕ} (f : From s 4 (0x2D ∷ bytes (two (1 + m)) ++ (0x2D ∷ 0x58 ∷ 0x58 ∷ []))) where
  month-digits : behind_year s 4 n ≡ month s 5 n
  unfolding behind_year months_run pick
  month-digits =
      let k = (1 + m) / 10 % 10 in
      rw (
        one-hyphen _ (omega arith) (omega arith) (λ (e : 48 + k ≡ 0x2D). omega arith) f,
        run_none (other (omega arith) (digit-x k (omega arith))) (front_rest f),
      )

  month_number : month s 5 n ≡ behind_month s 7 n m
  unfolding month month_run on_value pick
  month_number =
      let k = 1 + m in
      let e = two_digits k in
      let v = two-value k (omega arith) in
      rw (
        ascii_run (two k) e hyphen-ascii (front_rest f),
        ascii-part (two k) (0x2D ∷ 0x58 ∷ 0x58 ∷ []) (front_rest f),
        parse-is (k / 10 % 10) ((k % 10) ∷ []) 255 e (omega arith),
        v,
        ne_eqb k 0 (λ (e : k ≡ 0). omega arith),
        le-ltb 12 k (omega arith),
      )
      (ap (λ (j : ℕ). behind_month s 7 n j) (omega arith))

  days-x : behind_month s 7 n m ≡ days n m
  unfolding behind_month day_run end_of_days pick
  days-x =
      let g = from-behind (bytes (two (1 + m))) (front_rest f) in
      let z = from-behind (0x58 ∷ 0x58 ∷ []) (front_rest g) in
      rw (x-behind _ g, two-x none (front_rest g), no-white z, at-end z)

-- the bytes before the first X
four-in : (n : ℕ) {l : List ℕ} → Each InPoint l → Each InPoint (bytes (four n) ++ l)
four-in n b = each_append (each-bytes point-digit (four n) (four_digits n)) b

-- the last day of a month of 31 days is the same in both
last-is : (m n : ℕ) → 31 ≤ month_length m (pos n) → 30 ≡ last_day m n
unfolding last_day
last-is m n h = omega (arith, length_most m (pos n))

module _ (span : FileSpan) where
  pub days-said : (n m : ℕ) → n < 10000 → 1 + m ≤ 12 → value span (bytes (four n) ++ (0x2D ∷ bytes (two (1 + m)) ++ (0x2D ∷ 0x58 ∷ 0x58 ∷ []))) ≡ Ok (days_upto n m 30)
  unfolding x_range days
  days-said n m h l =
      let f = from_start (bytes (four n) ++ (0x2D ∷ bytes (two (1 + m)) ++ (0x2D ∷ 0x58 ∷ 0x58 ∷ []))) in
      let g = from-behind (bytes (four n)) f in
      let k : m < 12 = omega arith in
      has-x span (0x58 ∷ []) (four-in n (more minus-in (each_append (each-bytes point-digit (two (1 + m)) (two_digits (1 + m))) (more minus-in no_more))))
      ∙ rw (whole-year n h f, month-digits n m k g, month_number n m k g, days-x n m k g)

  pub unknown-value : {s : List ℕ} {v : DateValue} → Unknown s v → PortedReads span s v
  unfolding x_range years months last_day
  unknown-value (dd_xx n h) = inl (has-x span (0x58 ∷ []) (each-bytes point-digit (two n) (two_digits n)) ∙ rw (century n h (from_start _)))
  unknown-value (ddd_x n h) = inl (has-x span [] (each-bytes point-digit (three n) (four_digits n).1) ∙ rw (decade n h (from_start _)))
  unknown-value (dddd_XX n h) =
      let f = from_start (bytes (four n) ++ (0x2D ∷ 0x58 ∷ 0x58 ∷ [])) in
      let g = from-behind (bytes (four n)) f in
      inl
      (has-x span (0x58 ∷ []) (four-in n (more minus-in no_more))
      ∙ rw (whole-year n h f, months-x n none g, months-end n (from-behind (0x2D ∷ 0x58 ∷ 0x58 ∷ []) g)))
  unknown-value (dddd_XX_XX n h) =
      let f = from_start (bytes (four n) ++ (0x2D ∷ 0x58 ∷ 0x58 ∷ 0x2D ∷ 0x58 ∷ 0x58 ∷ [])) in
      let g = from-behind (bytes (four n)) f in
      inl
      (has-x span (0x58 ∷ 0x2D ∷ 0x58 ∷ 0x58 ∷ []) (four-in n (more minus-in no_more))
      ∙ rw (whole-year n h f, months-x n hyphen-x g, months-second n (from-behind (0x2D ∷ 0x58 ∷ 0x58 ∷ []) g)))
  unknown-value (Grammar.dddd_mm_XX n h (field m l)) =
      elim (dec_lt (month_length m (pos n)) 31) [
        | yes k ↦ inr (days_upto n m 30, dddd_mm_XX n h (field m l) k, days-said n m h l)
        | no k ↦ inl (days-said n m h l ∙ ap (λ (d : ℕ). Ok (days_upto n m d)) (last-is m n (omega (arith, k))))
      ]
