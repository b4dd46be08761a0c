-- A year, a month and a day as they are written, each read as a field of its own.
-- Assumes nothing.
use mathlib.Core.Path.{◌≡◌, refl, sym, ap, subst, ◌∙◌}
use mathlib.Core.Bool.{Bool, true, false}
use mathlib.Core.List.{List, [], ◌∷◌, ◌++◌, append-nil}
use Prim.Native.Nat.{ℕ, suc, ◌+◌, ◌-◌, ◌/◌, ◌%◌, ◌<◌}
use native.Mathlib.Nat.{sub_self, sub-zero}
use native.Mathlib.Omega.{arith}
use borrow.Author.Tests.{ne_eqb, eq-eqb, le-leb, le-ltb}
use lib.Dec.{leb, lit<}
use lib.IntN.{ℤ, pos, negsuc, neg_ℤ, nat_abs}
use lib.ListN.{length}
use lib.Seq.{drop-length, take-length}
use Rattle.chars.specs.Pick.{pick}
use Rattle.scanner.specs.declared.Class.TheVariants.{Whitespace, PlainWhitespace, AsciiDigit, Separator, Is}
use Rattle.std.specs.Prelude.{Option, None, Ok}
use Rattle.scanner.specs.declared.Cursor.{Cursor}
use Rattle.scanner.specs.Class.{in_class}
use Rattle.scanner.specs.Scan.{eat_while, eat_text, begins, done_at, part}
use Rattle.scanner.proofs.Laws.{not_white}
use Rattle.scanner.proofs.Digits.{is-other}
use Rattle.scanner.proofs.Front.{From, from_start, from-behind, front-stop, front_rest, front-end, front-past}
use Rattle.refusals.specs.declared.FileSpan.{FileSpan}
use Rattle.numbers.specs.declared.Digits.TheVariants.{OneOrTwo}
use Rattle.numbers.specs.Number.{admits, cursor}
use Rattle.numbers.proofs.Reading.{bytes, value, AreDigits, length-bytes, end, digit-hyphen, hyphen-hyphen, front-ate, front_kept, digit-white, number_read}
use Rattle.numbers.specs.Trim.{trim}
use Rattle.numbers.proofs.Trims.{Plain, plain-trim}
use Rattle.fields.specs.Year.{has_sign, signed_by, on_past, negative_era, era_at, parse_era_marker, ended, with_era, behind_digits, on_number, year_digits, year_from, behind_sign, year_at, get_year}
use Rattle.fields.specs.Names.{stored_month}
use Rattle.fields.specs.Month.{month_of, month_field}
use Rattle.fields.specs.Day.{is_day, day_behind, day_at, day_from, day_in_month_field, day_given, day_field}
use Rattle.points.proofs.Back.{two, four, lead, three, two_digits, two-value, four_digits, four-value, year_bytes}
use Rattle.roundtrip_laws.proofs.Runs.{Stops, none, ascii_run, ascii-part, parse-is}

pub behind-digits : (ds : List ℕ) {s t : List ℕ} {i : ℕ} → From s i (bytes ds ++ t) → From s (i + length ds) t
behind-digits ds {s} {t} {i} f = subst (λ (n : ℕ). From s (i + n) t) (length-bytes ds) (from-behind (bytes ds) f)

-- no era at the end of the text
same : (b : Bool) → ◌≡◌ {A = Option Cursor} (pick b None None) None
unfolding pick
same true = refl
same false = refl

pub no_text : (x : ℕ) (t : List ℕ) {s : List ℕ} {i : ℕ} → From s i [] → eat_text (x ∷ t) s i ≡ None
unfolding eat_text begins pick
no_text x t {s} {i} f = rw f.is (same (leb i (length s)))

pub no-era : (idx n : ℕ) (sign : _) {s : List ℕ} {i : ℕ} → From s i [] → behind_digits s idx i sign n ≡ Ok (signed_by sign n)
unfolding behind_digits with_era ended done_at parse_era_marker era_at negative_era on_past pick
no-era idx n sign {s} {i} f =
    rw (front-end f Whitespace, no_text 65 (68 ∷ []) f, no_text 67 (69 ∷ []) f, no_text 66 (67 ∷ []) f, le-leb (length s) i (front-past f))

-- one to four digits behind their sign
pub digits-read : (d : ℕ) (ds : List ℕ) (idx : ℕ) (sign : _) {s t : List ℕ} {i : ℕ} → AreDigits (d ∷ ds) → length ds < 4 → value 0 (d ∷ ds) < 10000 → Stops AsciiDigit t → From s i (bytes (d ∷ ds) ++ t) → behind_sign s idx i sign ≡ behind_digits s idx (i + suc (length ds)) sign (value 0 (d ∷ ds))
unfolding behind_sign year_from year_digits on_number pick
digits-read d ds idx sign {s} {t} {i} a l h b f =
    rw (
      digit-white a.0 f,
      ascii_run (d ∷ ds) a b f,
      ascii-part (d ∷ ds) t f,
      ne_eqb (length (bytes (d ∷ ds))) 0 (λ (e : length (bytes (d ∷ ds)) ≡ 0). omega arith),
      le-ltb 4 (length (bytes (d ∷ ds))) (omega (arith, length-bytes ds)),
      eq-eqb i i refl,
      parse-is d ds 9999 a (omega arith),
    )

-- and nothing behind them
alone-read : (d : ℕ) (ds : List ℕ) (idx : ℕ) (sign : _) {s : List ℕ} {i : ℕ} → AreDigits (d ∷ ds) → length ds < 4 → value 0 (d ∷ ds) < 10000 → From s i (bytes (d ∷ ds)) → behind_sign s idx i sign ≡ Ok (signed_by sign (value 0 (d ∷ ds)))
alone-read d ds idx sign {s} {i} a l h f =
    let u = bytes (d ∷ ds) in
    let g : From s i (u ++ []) = record { is = f.is ∙ sym (append-nil u) } in
    digits-read d ds idx sign a l h none g ∙ no-era idx (value 0 (d ∷ ds)) sign (behind-digits (d ∷ ds) g)

digit-plus : (d : ℕ) → d < 10 → in_class (Is 0x2B) (48 + d) ≡ false
digit-plus d h = is-other 0x2B (48 + d) (λ (e : 48 + d ≡ 0x2B). omega arith)

hyphen-white : {s t : List ℕ} {i : ℕ} → From s i (0x2D ∷ t) → eat_while Whitespace s i ≡ i
hyphen-white f = front-stop f Whitespace (lit< tt) (not_white 0x2D (lit< tt) (lit< tt))

-- a text that begins with a digit has no sign
pub no_sign : (d : ℕ) (t : List ℕ) {y : ℤ} → d < 10 → ((sign : _) → has_sign sign ≡ false → ((n : ℕ) → signed_by sign n ≡ pos n) → behind_sign ((48 + d) ∷ t) 0 0 sign ≡ Ok y) → get_year ((48 + d) ∷ t) ≡ Ok y
unfolding get_year year_at on_past
no_sign d t h g =
    let f = from_start ((48 + d) ∷ t) in
    rw (
      digit-white h f,
      front_kept f (Is 0x2D) (omega arith) (digit-hyphen d h),
      front_kept f (Is 0x2B) (omega arith) (digit-plus d h),
    )
    (g _ refl (λ n. refl))

-- one to four digits alone
pub digits-field : (d : ℕ) (ds : List ℕ) → AreDigits (d ∷ ds) → length ds < 4 → value 0 (d ∷ ds) < 10000 → get_year (bytes (d ∷ ds)) ≡ Ok (pos (value 0 (d ∷ ds)))
digits-field d ds a l h =
    no_sign d (bytes ds) a.0 λ sign _ p.
    alone-read d ds 0 sign a l h (from_start (bytes (d ∷ ds))) ∙ ap Ok (p (value 0 (d ∷ ds)))

pub year-field : (y : ℤ) → nat_abs y < 10000 → get_year (year_bytes y) ≡ Ok y
unfolding get_year year_at on_past
year-field (pos n) h =
    let v = four-value n h in
    digits-field (lead n) (three n) (four_digits n) (lit< tt) (omega arith) ∙ ap (λ (k : ℕ). Ok (pos k)) v
year-field (negsuc n) h =
    let f = from_start (0x2D ∷ bytes (four (suc n))) in
    let v = four-value (suc n) h in
    rw (hyphen-white f, front-ate f (Is 0x2D) (lit< tt) hyphen-hyphen)
    (alone-read (lead (suc n)) (three (suc n)) 0 _ (four_digits (suc n)) (lit< tt) (omega arith) (front_rest f) ∙ ap (λ (k : ℕ). Ok (neg_ℤ (pos k))) v)

-- a number of one or two digits
pub month-digits : (d : ℕ) (ds : List ℕ) → AreDigits (d ∷ ds) → admits OneOrTwo (suc (length ds)) ≡ true → 0 < value 0 (d ∷ ds) → month_field (bytes (d ∷ ds)) ≡ Ok (stored_month (value 0 (d ∷ ds) - 1), cursor (0 + suc (length ds)))
unfolding month_field month_of pick
month-digits d ds a l h =
    let u = bytes (d ∷ ds) in
    let f : From u 0 (u ++ []) = record { is = sym (append-nil u) } in
    rw (number_read d ds a end f OneOrTwo l, ne_eqb (value 0 (d ∷ ds)) 0 (λ (e : value 0 (d ∷ ds) ≡ 0). omega arith))

two-admitted : admits OneOrTwo 2 ≡ true
unfolding admits
two-admitted = refl

pub month-field : (m : ℕ) → m < 12 → month_field (bytes (two (m + 1))) ≡ Ok (stored_month m, cursor 2)
month-field m h =
    let n = m + 1 in
    let v = two-value n (omega arith) in
    month-digits (n / 10 % 10) ((n % 10) ∷ []) (two_digits n) two-admitted (omega arith)
    ∙ ap (λ (k : ℕ). Ok (stored_month k, cursor 2)) (omega arith)

-- no day stands behind the month
pub no_day : (s : List ℕ) → day_in_month_field s (length s) ≡ Ok None
unfolding day_in_month_field day_from day_at day_behind part pick
no_day s =
    let f : From s (length s) [] = record { is = drop-length s } in
    rw (front-end f PlainWhitespace, front-end f Separator, front-end f AsciiDigit, sub_self, eq-eqb (length s) (length s) refl)

digits-plain : (ds : List ℕ) → AreDigits ds → Plain (bytes ds)
digits-plain [] h = tt
digits-plain (d ∷ ds) h = ((omega (arith, h.0), not_white (48 + d) (omega arith) (omega (arith, h.0))), digits-plain ds h.1)

digits-trim : (d : ℕ) (ds : List ℕ) → AreDigits (d ∷ ds) → trim (bytes (d ∷ ds)) ≡ bytes (d ∷ ds)
unfolding trim part
digits-trim d ds h =
    let u = bytes (d ∷ ds) in
    rw (digit-white h.0 (from_start u), plain-trim u (digits-plain (d ∷ ds) h), sub-zero) (take-length u)

pub day-digits : (d : ℕ) (ds : List ℕ) (span : FileSpan) → AreDigits (d ∷ ds) → 0 < value 0 (d ∷ ds) → value 0 (d ∷ ds) < 32 → day_field (bytes (d ∷ ds)) span ≡ Ok (record { 0 = value 0 (d ∷ ds) - 1 })
unfolding day_field day_given is_day pick
day-digits d ds span a l h =
    let v = value 0 (d ∷ ds) in
    rw (digits-trim d ds a, parse-is d ds 255 a (omega arith), le-leb 1 v (omega arith), le-leb v 31 (omega arith))

pub day-field : (d : ℕ) (span : FileSpan) → d < 31 → day_field (bytes (two (d + 1))) span ≡ Ok (record { 0 = d })
day-field d span h =
    let n = d + 1 in
    let v = two-value n (omega arith) in
    day-digits (n / 10 % 10) ((n % 10) ∷ []) span (two_digits n) (omega arith) (omega arith)
    ∙ ap (λ (k : ℕ). Ok (record { 0 = k })) (omega arith)
