-- What a plain cell says, and that what the reader of its field reads is just that. Assumes nothing.
use Prim.Native.Nat.{ℕ, zero, suc, ◌+◌, ◌-◌, ◌≤◌, ◌<◌}
use mathlib.Core.Path.{◌≡◌, refl, sym, ap, subst, ◌∙◌}
use mathlib.Core.Bool.{Bool, true, false, false≢true, ◌&&◌}
use mathlib.Core.List.{List, [], ◌∷◌, ◌++◌, append-nil}
use native.Mathlib.Nat.{zero-add, add-zero, sub-zero}
use native.Mathlib.Omega.{arith}
use borrow.Author.Tests.{ltb-true, ltb-false, leb-true, eqb-true, eqb-false, le-leb, lt-leb, ne_eqb}
use lib.Dec.{ltb, leb, eqb, lit<, lit≤}
use lib.IntN.{ℤ, pos, neg_ℤ}
use lib.ListN.{length, take, drop, length-append, length-drop}
use lib.Seq.{take-length}
use Rattle.chars.specs.Pick.{pick}
use Rattle.chars.specs.Ascii.{ascii}
use Rattle.chars.specs.Classes.{within, is_whitespace, is_ascii_digit, is_ascii_alphabetic}
use Rattle.chars.specs.Utf8.{decode_at}
use Rattle.chars.specs.declared.Decoded.{Decoded}
use Rattle.chars.specs.declared.Decoded.TheVariants.{Char, Bad, End}
use Rattle.chars.proofs.Cases.{by-test, of_test, and-true}
use Rattle.chars.proofs.Encode.{encode_one}
use Rattle.chars.proofs.Laws.{found}
use Rattle.scanner.specs.declared.Class.{Class}
use Rattle.scanner.specs.declared.Class.TheVariants.{Whitespace, Numeric, AsciiDigit, AsciiAlphabetic, Alphanumeric, Is}
use Rattle.scanner.specs.declared.Cursor.{Cursor}
use Rattle.std.specs.Prelude.{Option, Some, None, Result, Ok, Err}
use Rattle.scanner.specs.Class.{in_class}
use Rattle.scanner.specs.Scan.{len_in, match_len, walk, eat_while, eat_if, eat_text, begins, stands_at, done_at, part}
use Rattle.scanner.proofs.Laws.{stop, not_white, match-end}
use Rattle.scanner.proofs.Digits.{below-digits, above-digits, no-numeric, is-other}
use Rattle.scanner.proofs.Front.{From, from_start, from-behind, front-inside, front_rest, front-go, front-stop, front-end, front-past}
use Rattle.refusals.specs.declared.FileSpan.{FileSpan}
use Rattle.refusals.specs.declared.TextRefusal.{TextRefusal}
use Rattle.refusals.specs.declared.Refusal.{Refusal}
use Rattle.refusals.specs.declared.Kind.TheVariants.{YearZeroCE}
use Rattle.refusals.specs.Offset.{text_refusal, panics}
use Rattle.dates.specs.declared.Month.{Month}
use Rattle.dates.specs.declared.Day.{Day}
use Rattle.dates.specs.Value.{month, day}
use Rattle.numbers.specs.declared.Digits.TheVariants.{OneOrTwo}
use Rattle.numbers.specs.Number.{admits, cursor, run_of, run_at, parse_unsigned_int}
use Rattle.numbers.specs.Parse.{AllDigits, decimal_value}
use Rattle.numbers.specs.Trim.{trim}
use Rattle.numbers.proofs.Decimal.{denoted}
use Rattle.numbers.proofs.Reading.{bytes, value, AreDigits, length-bytes, value-is, end, front-ate, front_kept, digit-white, hyphen-hyphen, number_read}
use Rattle.numbers.proofs.Trims.{Plain, plain-trim}
use Rattle.fields.specs.Year.{has_sign, before_christ, on_past, era_end, negative_era, era_at, parse_era_marker, ended, with_era, behind_digits, year_digits, year_from, behind_sign, year_at, get_year}
use Rattle.fields.specs.Names.{lower, same_letters, Word, month_in, names, abbreviations, get_month_for_name, get_month_for_abbr, or_else, month_for}
use Rattle.fields.specs.Month.{named, month_of, month_field}
use Rattle.fields.specs.Day.{is_day, day_given, day_field}
use Rattle.roundtrip_laws.proofs.Bytes.{Each, each_append, each-bytes, each_of}
use Rattle.roundtrip_laws.proofs.Bytes.Each.{none as nothing, more}
use Rattle.roundtrip_laws.proofs.Runs.{Stops, none as stops, other, run_none, parse-is}
use Rattle.roundtrip_laws.proofs.Fields.{behind-digits, no_text, no-era, digits-read, digits-field}
use Rattle.verdicts.specs.Means.{EraMeans, YearMeans, MonthMeans, DayMeans}
use Rattle.verdicts.specs.Means.EraMeans.{ad, ce, bc, bce}
use Rattle.verdicts.specs.Means.YearMeans.{four_digits, minus_digits, era_digits}
use Rattle.verdicts.specs.Means.MonthMeans.{month_empty, month_number, month_name}
use Rattle.verdicts.specs.Means.DayMeans.{day_empty, day_number}
use Rattle.verdicts.specs.Plain.{is_digits, is_full_year, ends_in, ends_in_era, has_era, is_era_year, is_plain_year, is_named, is_plain_month, is_plain_day}

-- ---- digits

-- digits, and what stands behind them
data Run : List ℕ → ℕ → Type 0 where
  run : (ds r : List ℕ) → AreDigits ds → Run (bytes ds ++ r) (length ds)

one_more : {t : List ℕ} {n : ℕ} (d : ℕ) → d < 10 → Run t n → Run ((48 + d) ∷ t) (suc n)
one_more d h (run ds r a) = run (d ∷ ds) r (h, a)

first_of : {x : ℕ} (c : ℕ) (t : List ℕ) (n : ℕ) → x ∷ [] ≡ take n (c ∷ t) → x ≡ c
first_of c t zero e = absurd (let z : ◌≡◌ {A = ℕ} 0 1 = cc in omega arith)
first_of c t (suc n) e = cc

digit-of : (c : ℕ) → in_class AsciiDigit c ≡ true → (d : ℕ) × (d < 10) × (c ≡ 48 + d)
unfolding in_class is_ascii_digit within
digit-of c e =
    let p = and-true (leb 0x30 c) (leb c 0x39) e in
    let l = leb-true 0x30 c p.0 in
    let h = leb-true c 0x39 p.1 in
    (c - 48, omega arith, omega arith)

-- a byte that is none does not begin one
module _ {s t : List ℕ} {i c : ℕ} (f : From s i (c ∷ t)) (e : in_class AsciiDigit c ≡ false) where
  not-this : (x n : ℕ) → decode_at s i ≡ Char x n → in_class AsciiDigit x ≡ true → ⊥
  not-this x n g h =
      let d = digit-of x h in
      let l : x < 0x80 = omega (arith, d.1, d.2) in
      let q = first_of c t n (sym (encode_one x l) ∙ (found s i g).bytes ∙ ap (take n) f.is) in
      false≢true (sym e ∙ ap (in_class AsciiDigit) (sym q) ∙ h)

  no_length : (d : Decoded) → decode_at s i ≡ d → len_in AsciiDigit d ≡ 0
  unfolding len_in pick
  no_length (Char x n) g = of_test (in_class AsciiDigit x) (λ h. absurd (not-this x n g h)) (λ h. rw h)
  no_length Bad g = refl
  no_length End g = refl

  stays : eat_while AsciiDigit s i ≡ i
  unfolding match_len
  stays = stop AsciiDigit s i (no_length (decode_at s i) refl)

-- how far the digits go
run_at_lem : (t : List ℕ) {s : List ℕ} {i : ℕ} → From s i t → (n : ℕ) × (eat_while AsciiDigit s i ≡ i + n) × Run t n
run_at_lem [] {s} {i} f = (0, front-end f AsciiDigit ∙ sym (add-zero i), run [] [] tt)
run_at_lem (c ∷ t) {s} {i} f =
    of_test (in_class AsciiDigit c)
    (λ e.
    let g = digit-of c e in
    let q = run_at_lem t (front_rest f) in (
      suc q.0,
      front-go f AsciiDigit (omega (arith, g.1, g.2)) e ∙ q.1 ∙ omega arith,
      subst (λ (x : ℕ). Run (x ∷ t) (suc q.0)) (sym g.2) (one_more g.0 g.1 q.2),
    ))
    (λ e. (0, stays f e ∙ sym (add-zero i), run [] (c ∷ t) tt))

-- a text of digits
data DigitsOf (low high : ℕ) : List ℕ → Type 0 where
  digits_of : (ds : List ℕ) → AreDigits ds → low ≤ length ds → length ds ≤ high → DigitsOf low high (bytes ds)

whole_run : {low high n : ℕ} {t : List ℕ} → Run t n → low ≤ length t → length t ≤ high → length t ≤ n → DigitsOf low high t
whole_run {low} {high} (run ds [] a) l h k =
    let e = append-nil (bytes ds) in
    let m = ap length e in
    let n = length-bytes ds in
    subst (DigitsOf low high) (sym e) (digits_of ds a (omega arith) (omega arith))
whole_run (run ds (x ∷ r) a) l h k = absurd (omega (arith, length-append (bytes ds) (x ∷ r), length-bytes ds))

of-digits : (low high : ℕ) (s : List ℕ) → is_digits low high s ≡ true → DigitsOf low high s
unfolding is_digits done_at
of-digits low high s e =
    let p = and-true (leb low (length s)) _ e in
    let q = and-true (leb (length s) high) _ p.1 in
    let r = run_at_lem s (from_start s) in
    whole_run r.2 (leb-true low (length s) p.0) (leb-true (length s) high q.0) (omega (arith, leb-true (length s) (eat_while AsciiDigit s 0) q.1, r.1))

-- what they denote
denotes : (ds : List ℕ) → AreDigits ds → AllDigits (bytes ds) × (value 0 ds ≡ decimal_value (bytes ds))
denotes ds a = denoted (value 0 ds) (bytes ds) (value-is ds (value 0 ds) 0 a (omega arith))

-- ---- texts that formatting leaves as they are

-- a printing ASCII character, or a space
pub record IsPrinted (x : ℕ) : Type 0 where
  pub low : 0x20 ≤ x
  pub high : x < 0x80

-- a short text of such characters
pub record Usual (s : List ℕ) : Type 0 where
  pub printed : Each IsPrinted s
  pub short : length s < 10

digits-printed : (ds : List ℕ) → AreDigits ds → Each IsPrinted (bytes ds)
digits-printed ds h = each-bytes (λ d l. record { low = omega arith; high = omega arith }) ds h

digits-usual : {low high : ℕ} {s : List ℕ} → high ≤ 4 → DigitsOf low high s → Usual s
digits-usual l (digits_of ds a m h) = record { printed = digits-printed ds a; short = omega (arith, length-bytes ds) }

-- ---- the year

-- what is read of a year's cell: the year that it says, or none
pub data YearReads (s : List ℕ) : Result ℤ TextRefusal → Type 0 where
  year_read : {y : ℤ} → YearMeans s y → YearReads s (Ok y)
  year_refused : {e : TextRefusal} → YearReads s (Err e)

space-white : in_class Whitespace 0x20 ≡ true
unfolding in_class is_whitespace within
space-white = refl

-- a text at a place, by what stands there
text_at : (u : List ℕ) {s t : List ℕ} {i c : ℕ} → From s i (c ∷ t) → eat_text u s i ≡ pick (begins u (c ∷ t)) (Some (cursor (i + length u))) None
unfolding eat_text pick
text_at u {s} {t} {i} f = rw (le-leb i (length s) (omega (arith, front-inside f)), f.is)

-- an era behind a number
module _ (idx n : ℕ) (sign : _) {s : List ℕ} {i : ℕ} (e : has_sign sign ≡ false) where
  era-reads : {t : List ℕ} {y : ℤ} → EraMeans n t y → From s i t → (z : TextRefusal) × (behind_digits s idx i sign n ≡ pick (eqb n 0) (Err z) (Ok y))
  unfolding behind_digits with_era parse_era_marker era_at negative_era era_end ended done_at on_past stands_at begins pick
  era-reads ad f =
      let g = front_rest f in
      let over = from-behind (65 ∷ 68 ∷ []) g in (
        text_refusal YearZeroCE idx (i + 1 + 2),
        rw (
          front-go f Whitespace (lit< tt) space-white,
          front-stop g Whitespace (lit< tt) (not_white 65 (lit< tt) (lit< tt)),
          text_at (65 ∷ 68 ∷ []) g,
          match-end Alphanumeric s (i + 1 + 2) (front-past over),
          e,
          le-leb (length s) (i + 1 + 2) (front-past over),
        ),
      )
  era-reads ce f =
      let g = front_rest f in
      let over = from-behind (67 ∷ 69 ∷ []) g in (
        text_refusal YearZeroCE idx (i + 1 + 2),
        rw (
          front-go f Whitespace (lit< tt) space-white,
          front-stop g Whitespace (lit< tt) (not_white 67 (lit< tt) (lit< tt)),
          text_at (65 ∷ 68 ∷ []) g,
          text_at (67 ∷ 69 ∷ []) g,
          match-end Alphanumeric s (i + 1 + 2) (front-past over),
          e,
          le-leb (length s) (i + 1 + 2) (front-past over),
        ),
      )
  era-reads bc f =
      let g = front_rest f in
      let over = from-behind (66 ∷ 67 ∷ []) g in (
        text_refusal YearZeroCE idx (i + 1 + 2),
        rw (
          front-go f Whitespace (lit< tt) space-white,
          front-stop g Whitespace (lit< tt) (not_white 66 (lit< tt) (lit< tt)),
          text_at (65 ∷ 68 ∷ []) g,
          text_at (67 ∷ 69 ∷ []) g,
          text_at (66 ∷ 67 ∷ []) g,
          no_text 69 [] over,
          match-end Alphanumeric s (i + 1 + 2) (front-past over),
          e,
        ),
      )
  era-reads bce f =
      let g = front_rest f in
      let h = from-behind (66 ∷ 67 ∷ []) g in
      let over = front_rest h in (
        text_refusal YearZeroCE idx (i + 1 + 2 + 1),
        rw (
          front-go f Whitespace (lit< tt) space-white,
          front-stop g Whitespace (lit< tt) (not_white 66 (lit< tt) (lit< tt)),
          text_at (65 ∷ 68 ∷ []) g,
          text_at (67 ∷ 69 ∷ []) g,
          text_at (66 ∷ 67 ∷ []) g,
          text_at (69 ∷ []) h,
          match-end Alphanumeric s (i + 1 + 2 + 1) (front-past over),
          e,
        ),
      )

-- a text that ends in a text
begins-all : (t u : List ℕ) → begins t u ≡ true → length u ≤ length t → u ≡ t
unfolding begins
begins-all [] [] e h = refl
begins-all [] (y ∷ u) e h = absurd (omega arith)
begins-all (x ∷ t) [] e h = absurd (false≢true e)
begins-all (x ∷ t) (y ∷ u) e h =
    let p = and-true (eqb x y) _ e in
    let a = eqb-true x y p.0 in
    let b = begins-all t u p.1 (omega arith) in
    cc

ends-in : (t s : List ℕ) (i : ℕ) {u : List ℕ} → From s i u → ends_in t s i ≡ true → u ≡ t
unfolding ends_in eat_text on_past done_at
ends-in t s i {u} f =
    by-test P (leb i (length s))
    (λ _. by-test P (begins t (drop i s))
    (λ b e.
    let l = leb-true (length s) (i + length t) e in
    begins-all t u (ap (begins t) (sym f.is) ∙ b) (omega (arith, ap length f.is, length-drop i s)))
    (λ _ e. absurd (false≢true e)))
    (λ _ e. absurd (false≢true e))
  where
    P : Option Cursor → Type 0
    P x = on_past x (done_at s) false ≡ true → u ≡ t

ends-in-era : (n : ℕ) (s : List ℕ) (i : ℕ) {u : List ℕ} → From s i u → ends_in_era s i ≡ true → (y : ℤ) × EraMeans n u y
unfolding ends_in_era
ends-in-era n s i {u} f e =
    of_test (ends_in (ascii " AD") s i) (λ t. (pos n, subst (λ (l : List ℕ). EraMeans n l (pos n)) (sym (ends-in (ascii " AD") s i f t)) ad))
    (λ a. of_test (ends_in (ascii " CE") s i) (λ t. (pos n, subst (λ (l : List ℕ). EraMeans n l (pos n)) (sym (ends-in (ascii " CE") s i f t)) ce))
    (λ b. of_test (ends_in (ascii " BC") s i) (λ t. (before_christ n, subst (λ (l : List ℕ). EraMeans n l (before_christ n)) (sym (ends-in (ascii " BC") s i f t)) bc))
    (λ c. let t : ends_in (ascii " BCE") s i ≡ true = rw (a, b, c) at e in (before_christ n, subst (λ (l : List ℕ). EraMeans n l (before_christ n)) (sym (ends-in (ascii " BCE") s i f t)) bce))))

era-front : {n : ℕ} {t : List ℕ} {y : ℤ} → EraMeans n t y → Stops AsciiDigit t
era-front ad = other (lit< tt) (below-digits 32 (lit< tt))
era-front ce = other (lit< tt) (below-digits 32 (lit< tt))
era-front bc = other (lit< tt) (below-digits 32 (lit< tt))
era-front bce = other (lit< tt) (below-digits 32 (lit< tt))

letter : {x : ℕ} {l : List ℕ} → leb 0x20 x && ltb x 0x80 ≡ true → Each IsPrinted l → Each IsPrinted (x ∷ l)
letter {x} e k =
    let p = and-true (leb 0x20 x) _ e in
    more (record { low = leb-true 0x20 x p.0; high = ltb-true x 0x80 p.1 }) k

era-printed : {n : ℕ} {t : List ℕ} {y : ℤ} → EraMeans n t y → Each IsPrinted t × (length t ≤ 4)
era-printed ad = (letter refl (letter refl (letter refl nothing)), lit≤ tt)
era-printed ce = (letter refl (letter refl (letter refl nothing)), lit≤ tt)
era-printed bc = (letter refl (letter refl (letter refl nothing)), lit≤ tt)
era-printed bce = (letter refl (letter refl (letter refl (letter refl nothing))), lit≤ tt)

era-usual : (ds : List ℕ) {n : ℕ} {t : List ℕ} {y : ℤ} → AreDigits ds → length ds < 5 → EraMeans n t y → Usual (bytes ds ++ t)
era-usual ds {n} {t} a h k =
    let p = era-printed k in
    record { printed = each_append (digits-printed ds a) p.0; short = omega (arith, length-append (bytes ds) t, length-bytes ds, p.1) }

-- four digits are below 10000
below : (ds : List ℕ) → AreDigits ds → length ds ≤ 4 → value 0 ds < 10000
below [] a h = lit< tt
below (x ∷ []) a h = omega (arith, a.0)
below (x ∷ y ∷ []) a h = omega (arith, a.0, a.1.0)
below (x ∷ y ∷ z ∷ []) a h = omega (arith, a.0, a.1.0, a.1.1.0)
below (x ∷ y ∷ z ∷ w ∷ []) a h = omega (arith, a.0, a.1.0, a.1.1.0, a.1.1.1.0)
below (x ∷ y ∷ z ∷ w ∷ v ∷ ds) a h = absurd (omega arith)

-- a digit at the front is no sign
unsigned : (P : Result ℤ TextRefusal → Type 0) (d : ℕ) (t : List ℕ) → d < 10 → ((sign : _) → has_sign sign ≡ false → P (behind_sign ((48 + d) ∷ t) 0 0 sign)) → P (get_year ((48 + d) ∷ t))
unfolding get_year year_at on_past
unsigned P d t h g =
    let f = from_start ((48 + d) ∷ t) in
    rw (
      digit-white h f,
      front_kept f (Is 0x2D) (omega arith) (is-other 0x2D (48 + d) (λ (e : 48 + d ≡ 0x2D). omega arith)),
      front_kept f (Is 0x2B) (omega arith) (is-other 0x2B (48 + d) (λ (e : 48 + d ≡ 0x2B). omega arith)),
    )
    (g _ refl)

era-value : (d : ℕ) (ds : List ℕ) {t : List ℕ} {y : ℤ} → AreDigits (d ∷ ds) → length ds < 4 → EraMeans (value 0 (d ∷ ds)) t y → (z : TextRefusal) × (get_year (bytes (d ∷ ds) ++ t) ≡ pick (eqb (value 0 (d ∷ ds)) 0) (Err z) (Ok y))
era-value d ds {t} {y} a h k =
    let n = value 0 (d ∷ ds) in
    let f = from_start (bytes (d ∷ ds) ++ t) in
    unsigned (λ (r : Result ℤ TextRefusal). (z : TextRefusal) × (r ≡ pick (eqb n 0) (Err z) (Ok y))) d (bytes ds ++ t) a.0 λ sign no.
    let q = era-reads 0 n sign no k (behind-digits (d ∷ ds) f) in
    (q.0, digits-read d ds 0 sign a h (below (d ∷ ds) a (omega arith)) (era-front k) f ∙ q.1)

era-get : (d : ℕ) (ds : List ℕ) {t : List ℕ} {y : ℤ} → AreDigits (d ∷ ds) → length ds < 4 → EraMeans (value 0 (d ∷ ds)) t y → YearReads (bytes (d ∷ ds) ++ t) (get_year (bytes (d ∷ ds) ++ t))
era-get d ds {t} {y} a h k =
    let u = bytes (d ∷ ds) in
    let n = value 0 (d ∷ ds) in
    let m = denotes (d ∷ ds) a in
    let b = length-bytes ds in
    subst (YearReads (u ++ t)) (sym (era-value d ds a h k).1)
    (by-test (YearReads (u ++ t)) (eqb n 0) (λ _. year_refused)
    (λ z.
    let w = eqb-false n 0 z in
    year_read (era_digits u m.0 (omega arith) (omega arith) (omega (arith, m.1)) (subst (λ (v : ℕ). EraMeans v t y) m.1 k))))

-- one to four digits and an era
era-year : {s : List ℕ} {n : ℕ} → Run s n → 0 < n → n < 5 → ends_in_era s n ≡ true → Usual s × YearReads s (get_year s)
era-year (run [] r a) l h e = absurd (omega arith)
era-year (run (d ∷ ds) r a) l h e =
    let g = subst (λ (i : ℕ). From (bytes (d ∷ ds) ++ r) i r) (zero-add (suc (length ds))) (behind-digits (d ∷ ds) (from_start (bytes (d ∷ ds) ++ r))) in
    let q = ends-in-era (value 0 (d ∷ ds)) (bytes (d ∷ ds) ++ r) (suc (length ds)) g e in
    (era-usual (d ∷ ds) a (omega arith) q.1, era-get d ds a (omega arith) q.1)

-- four digits
four-year : {s : List ℕ} → DigitsOf 4 4 s → Usual s × YearReads s (get_year s)
four-year (digits_of [] a l h) = absurd (omega arith)
four-year (digits_of (d ∷ ds) a l h) =
    let s = bytes (d ∷ ds) in
    let m = denotes (d ∷ ds) a in
    let b = length-bytes ds in
    (digits-usual {low = 4} {high = 4} (lit≤ tt) (digits_of (d ∷ ds) a l h), subst (YearReads s) (sym (digits-field d ds a (omega arith) (below (d ∷ ds) a h) ∙ ap (λ (v : ℕ). Ok (pos v)) m.1)) (year_read (four_digits m.0 (omega arith))))

-- and behind a minus
minus-get : (d : ℕ) (ds : List ℕ) → AreDigits (d ∷ ds) → length ds < 4 → get_year (45 ∷ bytes (d ∷ ds)) ≡ Ok (neg_ℤ (pos (value 0 (d ∷ ds))))
unfolding get_year year_at on_past
minus-get d ds a h =
    let u = bytes (d ∷ ds) in
    let f = from_start (45 ∷ u) in
    let g : From (45 ∷ u) 1 (u ++ []) = record { is = sym (append-nil u) } in
    rw (front-stop f Whitespace (lit< tt) (not_white 0x2D (lit< tt) (lit< tt)), front-ate f (Is 0x2D) (lit< tt) hyphen-hyphen)
    (digits-read d ds 0 _ a h (below (d ∷ ds) a (omega arith)) stops g ∙ no-era 0 (value 0 (d ∷ ds)) _ (behind-digits (d ∷ ds) g))

minus-year : {s : List ℕ} → DigitsOf 4 4 s → Usual (45 ∷ s) × YearReads (45 ∷ s) (get_year (45 ∷ s))
minus-year (digits_of [] a l h) = absurd (omega arith)
minus-year (digits_of (d ∷ ds) a l h) =
    let s = bytes (d ∷ ds) in
    let m = denotes (d ∷ ds) a in
    let b = length-bytes ds in
    (record { printed = letter refl (digits-printed (d ∷ ds) a); short = omega arith }, subst (YearReads (45 ∷ s)) (sym (minus-get d ds a (omega arith) ∙ ap (λ (v : ℕ). Ok (neg_ℤ (pos v))) m.1)) (year_read (minus_digits m.0 (omega arith))))

full-year : (s : List ℕ) → is_full_year s ≡ true → Usual s × YearReads s (get_year s)
unfolding is_full_year pick
full-year [] e = absurd (false≢true e)
full-year (b ∷ s) e =
    of_test (eqb b 45)
    (λ t. rw (eqb-true b 45 t) (minus-year (of-digits 4 4 s (rw t at e))))
    (λ t. four-year (of-digits 4 4 (b ∷ s) (rw t at e)))

-- an empty cell is refused
empty-year : (s : List ℕ) → length s ≡ 0 → Usual s × YearReads s (get_year s)
unfolding get_year year_at on_past eat_if behind_sign year_from year_digits part pick eat_while walk
empty-year [] e =
    let f = from_start [] in
    (record { printed = nothing; short = lit< tt }, rw (front-end f Whitespace, match-end (Is 45) [] 0 (lit≤ tt), match-end (Is 43) [] 0 (lit≤ tt)) year_refused)
empty-year (b ∷ s) e = absurd (omega arith)

-- what is read of a plain year is what it says
pub year-reads : (s : List ℕ) → is_plain_year s ≡ true → Usual s × YearReads s (get_year s)
unfolding is_plain_year is_era_year has_era
year-reads s e =
    of_test (eqb (length s) 0) (λ t. empty-year s (eqb-true (length s) 0 t))
    (λ t. of_test (is_full_year s) (λ u. full-year s u)
    (λ u.
    let r = run_at_lem s (from_start s) in
    let n = r.0 in
    let w : eat_while AsciiDigit s 0 ≡ n = r.1 ∙ zero-add n in
    let v : ltb 0 n && (ltb n 5 && ends_in_era s n) ≡ true = rw (t, u, w) at e in
    let p = and-true (ltb 0 n) _ v in
    let q = and-true (ltb n 5) _ p.1 in
    era-year r.2 (ltb-true 0 n p.0) (ltb-true n 5 q.0) q.1))

-- ---- the month

-- what is read of a month's cell: the month that it says, up to its end, or none
pub data MonthReads (s : List ℕ) : Result (Option Month × Cursor) TextRefusal → Type 0 where
  month_read : {m : Option Month} → MonthMeans s m → MonthReads s (Ok (m, cursor (length s)))
  month_refused : {e : TextRefusal} → MonthReads s (Err e)

few : (ds : List ℕ) → length ds < 2 → admits OneOrTwo (suc (length ds)) ≡ true
unfolding admits
few [] h = refl
few (d ∷ []) h = refl
few (d ∷ b ∷ ds) h = absurd (omega arith)

number-get : (d : ℕ) (ds : List ℕ) → AreDigits (d ∷ ds) → length ds < 2 → month_field (bytes (d ∷ ds)) ≡ pick (eqb (value 0 (d ∷ ds)) 0) (Err panics) (Ok (month (value 0 (d ∷ ds) - 1), cursor (0 + suc (length ds))))
unfolding month_field month_of
number-get d ds a h =
    let u = bytes (d ∷ ds) in
    let f : From u 0 (u ++ []) = record { is = sym (append-nil u) } in
    rw (number_read d ds a end f OneOrTwo (few ds h))

-- one or two digits
number-month : {s : List ℕ} → DigitsOf 0 2 s → 0 < length s → Usual s × MonthReads s (month_field s)
number-month (digits_of [] a l h) k = absurd (omega arith)
number-month (digits_of (d ∷ ds) a l h) k =
    let s = bytes (d ∷ ds) in
    let n = value 0 (d ∷ ds) in
    let m = denotes (d ∷ ds) a in
    let b : 0 + suc (length ds) ≡ length s = omega (arith, length-bytes ds) in (
      digits-usual {low = 0} {high = 2} (lit≤ tt) (digits_of (d ∷ ds) a l h),
      subst (MonthReads s) (sym (number-get d ds a (omega arith)))
          (by-test (MonthReads s) (eqb n 0) (λ _. month_refused)
          (λ z.
          let w = eqb-false n 0 z in
          subst (λ (c : ℕ). MonthReads s (Ok (month (n - 1), cursor c))) (sym b) (month_read (month_number m.0 (omega (arith, m.1, w)))))),
    )

-- a letter
record IsName (x : ℕ) : Type 0 where
  alphabetic : in_class AsciiAlphabetic x ≡ true
  low : 65 ≤ x
  high : x ≤ 122

-- a byte that is a small letter in lower case is a letter
lowered : (b : ℕ) → 97 ≤ lower b → lower b ≤ 122 → IsName b
unfolding lower in_class is_ascii_alphabetic within
lowered b =
    by-test P (ltb b 65) (λ t l h. absurd (omega (arith, ltb-true b 65 t)))
    (λ t. let f = ltb-false b 65 t in
    by-test P (ltb 90 b)
    (λ u l h. record { alphabetic = rw (le-leb 65 b (omega arith), lt-leb b 90 (ltb-true 90 b u), le-leb 97 b l, le-leb b 122 h); low = omega arith; high = h })
    (λ u l h. let g = ltb-false 90 b u in record { alphabetic = rw (le-leb 65 b (omega arith), le-leb b 90 (omega arith)); low = omega arith; high = omega arith }))
  where
    P : ℕ → Type 0
    P x = 97 ≤ x → x ≤ 122 → IsName b

-- a word of small letters
abbrev are_small : List ℕ → Bool
are_small [] = true
are_small (x ∷ t) = (leb 97 x && leb x 122) && are_small t

same-letters : (w t : List ℕ) → are_small w ≡ true → same_letters w t ≡ true → Each IsName t × (length t ≡ length w)
unfolding same_letters
same-letters [] [] a e = (nothing, refl)
same-letters [] (b ∷ t) a e = absurd (false≢true e)
same-letters (x ∷ w) [] a e = absurd (false≢true e)
same-letters (x ∷ w) (b ∷ t) a e =
    let p = and-true (eqb x (lower b)) _ e in
    let y = eqb-true x (lower b) p.0 in
    let q = and-true (leb 97 x && leb x 122) _ a in
    let r = and-true (leb 97 x) _ q.0 in
    let z = same-letters w t q.1 p.1 in
    (more (lowered b (omega (arith, y, leb-true 97 x r.0)) (omega (arith, y, leb-true x 122 r.1))) z.0, ap suc z.1)

-- of at most nine of them
abbrev are_words : List Word → Bool
are_words [] = true
are_words (w ∷ ws) = (leb (length (ascii w.word)) 9 && are_small (ascii w.word)) && are_words ws

-- a text that is a word of such a list
abbrev Lettered : List ℕ → Type 0
Lettered s = Each IsName s × (length s ≤ 9)

in_words : (ws : List Word) (s : List ℕ) → are_words ws ≡ true → is_named (month_in ws s) ≡ true → Lettered s
unfolding month_in is_named
in_words [] s a = λ e. absurd (false≢true e)
in_words (w ∷ ws) s a =
    let p = and-true (leb (length (ascii w.word)) 9 && are_small (ascii w.word)) _ a in
    let q = and-true (leb (length (ascii w.word)) 9) _ p.0 in
    by-test (λ (m : Option Month). is_named m ≡ true → Lettered s) (same_letters (ascii w.word) s)
    (λ t _. let r = same-letters (ascii w.word) s q.1 t in (r.0, omega (arith, r.1, leb-true (length (ascii w.word)) 9 q.0)))
    (λ _ e. in_words ws s p.1 e)

either-word : (a b : Option Month) {A : Type 0} → is_named (or_else a b) ≡ true → (is_named a ≡ true → A) → (is_named b ≡ true → A) → A
unfolding or_else is_named
either-word (Some m) b e f g = f e
either-word None b e f g = g e

lettered : (s : List ℕ) → is_named (month_for s) ≡ true → Lettered s
unfolding month_for get_month_for_name get_month_for_abbr
lettered s e = either-word (month_in names s) (month_in abbreviations s) e (in_words names s refl) (in_words abbreviations s refl)

letters-run : {u s : List ℕ} {i : ℕ} → Each IsName u → From s i u → eat_while AsciiAlphabetic s i ≡ i + length u
letters-run {i = i} nothing f = front-end f AsciiAlphabetic ∙ sym (add-zero i)
letters-run (more h e) f = front-go f AsciiAlphabetic (omega (arith, h.high)) h.alphabetic ∙ letters-run e (front_rest f) ∙ omega arith

-- no other class begins with one
no_run : (k : Class) {s : List ℕ} → ((x : ℕ) → IsName x → in_class k x ≡ false) → Each IsName s → Stops k s
no_run k f nothing = stops
no_run k f (more {x} h e) = other {c = x} (omega (arith, h.high)) (f x h)

name-white : (x : ℕ) → IsName x → in_class Whitespace x ≡ false
name-white x h = not_white x (omega (arith, h.low)) (omega (arith, h.high))

name-numeric : (x : ℕ) → IsName x → in_class Numeric x ≡ false
name-numeric x h = no-numeric x (omega (arith, h.high)) (above-digits x (omega (arith, h.low)))

name-get : (s : List ℕ) → Each IsName s → month_field s ≡ Ok (month_for s, cursor (length s))
unfolding month_field month_of named parse_unsigned_int run_at run_of admits part pick
name-get s e =
    let f = from_start s in
    rw (
      run_none (no_run Whitespace name-white e) f,
      run_none (no_run Numeric name-numeric e) f,
      letters-run e f,
      zero-add,
      sub-zero,
      take-length s,
    )

says-name : (s : List ℕ) (m : Option Month) → month_for s ≡ m → is_named m ≡ true → MonthMeans s m
unfolding is_named
says-name s None e n = absurd (false≢true n)
says-name s (Some m) e n = month_name e

-- a name
name-month : (s : List ℕ) → is_named (month_for s) ≡ true → Usual s × MonthReads s (month_field s)
name-month s e =
    let p = lettered s e in (
      record { printed = each_of (λ x (h : IsName x). record { low = omega (arith, h.low); high = omega (arith, h.high) }) p.0; short = omega (arith, p.1) },
      subst (MonthReads s) (sym (name-get s p.0)) (month_read (says-name s (month_for s) refl e)),
    )

-- what is read of a plain month is what it says
pub month-reads : (s : List ℕ) → is_plain_month s ≡ true → 0 < length s → Usual s × MonthReads s (month_field s)
unfolding is_plain_month
month-reads s e h =
    of_test (is_digits 0 2 s) (λ t. number-month (of-digits 0 2 s t) h) (λ t. name-month s (rw t at e))

-- ---- the day

-- what is read of a day's cell: the day that it says, or none
pub data DayReads (s : List ℕ) : Result Day Refusal → Type 0 where
  day_read : {d : Day} → DayMeans s (Some d) → DayReads s (Ok d)
  day_refused : {e : Refusal} → DayReads s (Err e)

digits-plain : (ds : List ℕ) → AreDigits ds → Plain (bytes ds)
digits-plain [] h = tt
digits-plain (d ∷ ds) h = ((omega (arith, h.0), not_white (48 + d) (omega arith) (omega (arith, h.0))), digits-plain ds h.1)

digits-trim : (d : ℕ) (ds : List ℕ) → AreDigits (d ∷ ds) → trim (bytes (d ∷ ds)) ≡ bytes (d ∷ ds)
unfolding trim part
digits-trim d ds h =
    let u = bytes (d ∷ ds) in
    rw (digit-white h.0 (from_start u), plain-trim u (digits-plain (d ∷ ds) h), sub-zero) (take-length u)

-- two digits are below 100
below_two : (ds : List ℕ) → AreDigits ds → length ds ≤ 2 → value 0 ds < 100
below_two [] a h = lit< tt
below_two (x ∷ []) a h = omega (arith, a.0)
below_two (x ∷ y ∷ []) a h = omega (arith, a.0, a.1.0)
below_two (x ∷ y ∷ z ∷ ds) a h = absurd (omega arith)

day-get : (d : ℕ) (ds : List ℕ) (span : FileSpan) → AreDigits (d ∷ ds) → length ds < 2 → day_field (bytes (d ∷ ds)) span ≡ day_given span (Some (value 0 (d ∷ ds)))
unfolding day_field
day-get d ds span a h = rw (digits-trim d ds a, parse-is d ds 255 a (omega (arith, below_two (d ∷ ds) a (omega arith))))

number-day : {s : List ℕ} (span : FileSpan) → DigitsOf 0 2 s → 0 < length s → Usual s × DayReads s (day_field s span)
unfolding day_given is_day
number-day span (digits_of [] a l h) k = absurd (omega arith)
number-day span (digits_of (d ∷ ds) a l h) k =
    let s = bytes (d ∷ ds) in
    let n = value 0 (d ∷ ds) in
    let m = denotes (d ∷ ds) a in (
      digits-usual {low = 0} {high = 2} (lit≤ tt) (digits_of (d ∷ ds) a l h),
      subst (DayReads s) (sym (day-get d ds span a (omega arith)))
          (by-test (DayReads s) (leb 1 n && leb n 31)
          (λ z.
          let w = leb-true 1 n (and-true (leb 1 n) _ z).0 in
          day_read (day_number m.0 (omega (arith, m.1, w))))
          (λ _. day_refused)),
    )

-- what is read of a plain day is what it says
pub day-reads : (s : List ℕ) (span : FileSpan) → is_plain_day s ≡ true → 0 < length s → Usual s × DayReads s (day_field s span)
unfolding is_plain_day
day-reads s span e h = number-day span (of-digits 0 2 s e) h

-- ---- a cell says one thing

spelled : (s : List ℕ) → AllDigits s → (ds : List ℕ) × AreDigits ds × (bytes ds ≡ s)
unfolding in_class
spelled [] a = ([], tt, refl)
spelled (b ∷ t) a =
    let d = digit-of b a.0 in
    let q = spelled t a.1 in
    (d.0 ∷ q.0, (d.1, q.1), ap (λ (x : ℕ). x ∷ bytes q.0) (sym d.2) ∙ ap (λ (l : List ℕ). b ∷ l) q.2)

four-back : (ds : List ℕ) → AreDigits ds → length (bytes ds) ≡ 4 → get_year (bytes ds) ≡ Ok (pos (decimal_value (bytes ds)))
four-back [] a l = absurd (omega arith)
four-back (d ∷ ds) a l =
    let b = length-bytes ds in
    digits-field d ds a (omega arith) (below (d ∷ ds) a (omega arith)) ∙ ap (λ (v : ℕ). Ok (pos v)) (denotes (d ∷ ds) a).1

minus-back : (ds : List ℕ) → AreDigits ds → length (bytes ds) ≡ 4 → get_year (45 ∷ bytes ds) ≡ Ok (neg_ℤ (pos (decimal_value (bytes ds))))
minus-back [] a l = absurd (omega arith)
minus-back (d ∷ ds) a l =
    let b = length-bytes ds in
    minus-get d ds a (omega arith) ∙ ap (λ (v : ℕ). Ok (neg_ℤ (pos v))) (denotes (d ∷ ds) a).1

era-back : (ds : List ℕ) {t : List ℕ} {y : ℤ} → AreDigits ds → 0 < length (bytes ds) → length (bytes ds) ≤ 4 → 0 < decimal_value (bytes ds) → EraMeans (decimal_value (bytes ds)) t y → get_year (bytes ds ++ t) ≡ Ok y
unfolding pick
era-back [] a l h p k = absurd (omega arith)
era-back (d ∷ ds) {t} {y} a l h p k =
    let b = length-bytes ds in
    let n = value 0 (d ∷ ds) in
    let m = (denotes (d ∷ ds) a).1 in
    (era-value d ds a (omega arith) (subst (λ (v : ℕ). EraMeans v t y) (sym m) k)).1 ∙ rw (ne_eqb n 0 (λ (e : n ≡ 0). omega arith))

-- a year that a cell says is the one that is read
year-back : {s : List ℕ} {y : ℤ} → YearMeans s y → get_year s ≡ Ok y
year-back (four_digits {s} a l) =
    let q = spelled s a in
    subst (λ (u : List ℕ). length u ≡ 4 → get_year u ≡ Ok (pos (decimal_value u))) q.2 (four-back q.0 q.1) l
year-back (minus_digits {s} a l) =
    let q = spelled s a in
    subst (λ (u : List ℕ). length u ≡ 4 → get_year (45 ∷ u) ≡ Ok (neg_ℤ (pos (decimal_value u)))) q.2 (minus-back q.0 q.1) l
year-back (era_digits s {t} {y} a l h p k) =
    let q = spelled s a in
    subst (λ (u : List ℕ). 0 < length u → length u ≤ 4 → 0 < decimal_value u → EraMeans (decimal_value u) t y → get_year (u ++ t) ≡ Ok y) q.2
    (era-back q.0 q.1) l h p k

-- so it says one
pub one_year : {s : List ℕ} {x y : ℤ} → YearMeans s x → YearMeans s y → x ≡ y
one_year k l = let p = year-back k in let q = year-back l in cc

-- a number is no name
not-both : (s : List ℕ) → AllDigits s → 0 < length s → Each IsName s → ⊥
unfolding in_class
not-both [] a h n = omega arith
not-both (b ∷ s) a h (more n r) = let d = digit-of b a.0 in omega (arith, d.1, d.2, n.low)

given-number : (s : List ℕ) → 0 < decimal_value s → 0 < length s
unfolding decimal_value
given-number [] e = absurd (omega arith)
given-number (b ∷ s) e = omega arith

number-name : (s : List ℕ) {m : Month} → AllDigits s → 0 < decimal_value s → month_for s ≡ Some m → ⊥
unfolding is_named
number-name s a e f = not-both s a (given-number s e) (lettered s (ap is_named f)).0

no_name : {m : Month} → month_for [] ≡ Some m → ⊥
unfolding month_for get_month_for_name get_month_for_abbr or_else month_in same_letters pick
no_name e = let z : ◌≡◌ {A = ℕ} 0 1 = cc in omega arith

-- a cell says one month
pub one_month : {s : List ℕ} {x y : Option Month} → MonthMeans s x → MonthMeans s y → x ≡ y
one_month month_empty month_empty = refl
one_month month_empty (month_number a e) = absurd (let g = given-number [] (omega arith) in omega arith)
one_month month_empty (month_name e) = absurd (no_name e)
one_month (month_number a e) month_empty = absurd (let g = given-number [] (omega arith) in omega arith)
one_month (month_number a e) (month_number b f) = ap month (omega arith)
one_month (month_number {s} a e) (month_name f) = absurd (number-name s a (omega arith) f)
one_month (month_name e) month_empty = absurd (no_name e)
one_month (month_name e) (month_number {s} b f) = absurd (number-name s b (omega arith) e)
one_month (month_name e) (month_name f) = sym e ∙ f

-- and one day
pub one_day : {s : List ℕ} {x y : Option Day} → DayMeans s x → DayMeans s y → x ≡ y
one_day day_empty day_empty = refl
one_day day_empty (day_number a e) = absurd (let g = given-number [] (omega arith) in omega arith)
one_day (day_number a e) day_empty = absurd (let g = given-number [] (omega arith) in omega arith)
one_day (day_number a e) (day_number b f) = ap day (omega arith)
