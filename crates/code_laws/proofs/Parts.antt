-- Usual fields: a year, a month or a day that is said at once is the one that the field's reader reads, and formatting leaves its text as it is.
-- Assumes nothing.
use mathlib.Core.Path.{◌≡◌, refl, sym, ap, subst, ◌∙◌}
use mathlib.Core.Bool.{true, false, ◌&&◌}
use mathlib.Core.List.{List, [], ◌∷◌, ◌++◌}
use Prim.Native.Nat.{ℕ, suc, ◌+◌, ◌*◌, ◌-◌, ◌≤◌, ◌<◌}
use native.Mathlib.Omega.{arith}
use native.Mathlib.Nat.{zero-add, add-zero, sub-zero}
use borrow.Author.Tests.{ltb-true, ltb-false, leb-true, eqb-true, eqb-false, le-leb, ne_eqb}
use lib.Dec.{eqb, ltb, leb, lit<, lit≤}
use lib.IntN.{ℤ, pos}
use lib.ListN.{length, get_or, take, drop, length-append, take-append-drop, drop_of_length-le}
use lib.Seq.{take-length}
use Rattle.chars.specs.Pick.{pick}
use Rattle.chars.specs.Classes.{within, is_whitespace, is_ascii_digit, is_ascii_alphabetic}
use Rattle.chars.proofs.Cases.{by-test, of_test, and-true}
use Rattle.chars.proofs.Spelled.{spelled, entries}
use Rattle.scanner.specs.declared.Class.{Class}
use Rattle.scanner.specs.declared.Class.TheVariants.{Whitespace, Numeric, AsciiAlphabetic, Alphanumeric}
use Rattle.dates.specs.declared.Month.{Month}
use Rattle.std.specs.Prelude.{Some, None, Ok, Option}
use Rattle.scanner.specs.Class.{in_class}
use Rattle.scanner.specs.Scan.{eat_while, eat_text, begins, stands_at, part}
use Rattle.scanner.proofs.Laws.{not_white, match-end}
use Rattle.scanner.proofs.Digits.{below-digits, above-digits, no-numeric}
use Rattle.scanner.proofs.Front.{From, from_start, front-inside, front_rest, from-behind, front-go, front-stop, front-end, front-past}
use Rattle.refusals.specs.declared.FileSpan.{FileSpan}
use Rattle.dates.specs.declared.Day.{Day}
use Rattle.dates.specs.Value.{month, day}
use Rattle.numbers.specs.declared.Digits.TheVariants.{OneOrTwo}
use Rattle.numbers.specs.Number.{admits, cursor, run_of, run_at, parse_unsigned_int}
use Rattle.numbers.proofs.Reading.{bytes, value, AreDigits, length-bytes}
use Rattle.fields.specs.Year.{has_sign, before_christ, on_past, era_end, negative_era, era_at, parse_era_marker, with_era, behind_digits, get_year}
use Rattle.fields.specs.Names.{month_for}
use Rattle.fields.specs.Month.{named, month_of, month_field}
use Rattle.fields.specs.Day.{day_field}
use Rattle.strict.proofs.Digits.{digit}
use Rattle.roundtrip_laws.proofs.Bytes.{Each, each_append, each-bytes, each_of}
use Rattle.roundtrip_laws.proofs.Bytes.Each.{none as nothing, more}
use Rattle.roundtrip_laws.proofs.Runs.{Stops, none as stops, other, run_none}
use Rattle.roundtrip_laws.proofs.Fields.{no_text, digits-read, behind-digits, no_sign, digits-field, month-digits, no_day, day-digits}
use Rattle.reading_laws.specs.Fields.{on_month, inside_day, month_text}
use Rattle.codes.specs.Points.{two_of, two_at}
use Rattle.codes.specs.Parts.{number_from, number_of, ends_with_era, era_year, year_part, small_of, is_letter, are_letters, some_month, named_month, month_part, day_part}

-- ---- texts

-- a printing ASCII character, or a space
pub record IsPrinted (x : ℕ) : Type 0 where
  pub low : 0x20 ≤ x
  pub high : x < 0x80

-- a short text of such characters
pub record Usual (s : List ℕ) : Type 0 where
  pub printed : Each IsPrinted s
  pub short : length s < 10

-- ---- digits

-- a text of digits: the number that they are, behind those that were read
data Spelled (acc : ℕ) : List ℕ → ℕ → Type 0 where
  digits : (ds : List ℕ) → AreDigits ds → Spelled acc (bytes ds) (value acc ds)

one_more : {acc : ℕ} (b : ℕ) {n : ℕ} {t : List ℕ} → is_ascii_digit b ≡ true → Spelled (acc * 10 + (b - 48)) t n → Spelled acc (b ∷ t) n
one_more {acc} b e (digits ds h) =
    let l = (digit b e).low in
    let k = (digit b e).high in
    let same : 48 + (b - 48) ≡ b = omega arith in
    subst (λ (c : ℕ). Spelled acc (c ∷ bytes ds) (value (acc * 10 + (b - 48)) ds)) same (digits ((b - 48) ∷ ds) (omega arith, h))

number-from : (acc : ℕ) (s : List ℕ) → number_from acc s < 10000 → Spelled acc s (number_from acc s)
unfolding number_from
number-from acc [] = λ h. digits [] tt
number-from acc (b ∷ t) =
    by-test (λ (n : ℕ). n < 10000 → Spelled acc (b ∷ t) n) (is_ascii_digit b)
    (λ e h. one_more b e (number-from (acc * 10 + (b - 48)) t h))
    (λ e h. absurd (omega arith))

-- some digits, as many as that at most
data Number (top : ℕ) : List ℕ → ℕ → Type 0 where
  number : (d : ℕ) (ds : List ℕ) → AreDigits (d ∷ ds) → length ds < top → Number top (bytes (d ∷ ds)) (value 0 (d ∷ ds))

some-digits : (top : ℕ) {s : List ℕ} {n : ℕ} → Spelled 0 s n → 0 < length s → length s ≤ top → Number top s n
some-digits top (digits [] h) l k = absurd (omega arith)
some-digits top (digits (d ∷ ds) h) l k = number d ds h (omega (arith, length-bytes ds))

number-of : (s : List ℕ) → number_of s < 10000 → Number 4 s (number_of s)
unfolding number_of
number-of s =
    by-test (λ (n : ℕ). n < 10000 → Number 4 s n) (ltb 0 (length s) && ltb (length s) 5)
    (λ e h.
    let p = and-true (ltb 0 (length s)) _ e in
    some-digits 4 (number-from 0 s h) (ltb-true 0 _ p.0) (omega (arith, ltb-true (length s) 5 p.1)))
    (λ e h. absurd (omega arith))

two_digits : (a b : ℕ) → two_of a b < 100 → Number 2 (a ∷ b ∷ []) (two_of a b)
unfolding two_of
two_digits a b =
    by-test (λ (n : ℕ). n < 100 → Number 2 (a ∷ b ∷ []) n) (is_ascii_digit a && is_ascii_digit b)
    (λ e h.
    let p = and-true (is_ascii_digit a) _ e in
    subst (Number 2 (a ∷ b ∷ [])) (omega arith) (some-digits 2 (one_more {acc = 0} a p.0 (one_more b p.1 (digits [] tt))) (lit< tt) (lit≤ tt)))
    (λ e h. absurd (omega arith))

one-digit : (a : ℕ) → is_ascii_digit a ≡ true → Number 2 (a ∷ []) (a - 48)
one-digit a e = subst (Number 2 (a ∷ [])) (omega arith) (some-digits 2 (one_more {acc = 0} a e (digits [] tt)) (lit< tt) (lit≤ tt))

small_of_lem : (s : List ℕ) → small_of s < 100 → Number 2 s (small_of s)
unfolding small_of
small_of_lem s =
    by-test (λ (n : ℕ). n < 100 → Number 2 s n) (eqb (length s) 2)
    (λ e h. subst (λ (t : List ℕ). Number 2 t (two_at s 0)) (entries 2 s (eqb-true _ 2 e)) (two_digits (get_or s 0 0) (get_or s 1 0) h))
    (λ _. by-test (λ (n : ℕ). n < 100 → Number 2 s n) (eqb (length s) 1 && is_ascii_digit (get_or s 0 0))
    (λ e h.
    let p = and-true (eqb (length s) 1) _ e in
    subst (λ (t : List ℕ). Number 2 t (get_or s 0 0 - 48)) (entries 1 s (eqb-true _ 1 p.0)) (one-digit (get_or s 0 0) p.1))
    (λ e h. absurd (omega arith)))

digits-printed : (ds : List ℕ) → AreDigits ds → Each IsPrinted (bytes ds)
digits-printed ds h = each-bytes (λ d l. record { low = omega arith; high = omega arith }) ds h

number-usual : {top n : ℕ} {s : List ℕ} → top ≤ 4 → Number top s n → Usual s
number-usual l (number d ds h k) = record { printed = digits-printed (d ∷ ds) h; short = omega (arith, length-bytes ds) }

-- ---- the year

space-white : in_class Whitespace 0x20 ≡ true
unfolding in_class is_whitespace within
space-white = refl

-- BC and nothing behind it
era-text : (x y : ℕ) {s : List ℕ} {i : ℕ} → From s i (66 ∷ 67 ∷ []) → eat_text (x ∷ y ∷ []) s i ≡ pick (begins (x ∷ y ∷ []) (66 ∷ 67 ∷ [])) (Some (cursor (i + 2))) None
unfolding eat_text pick
era-text x y {s} {i} f = rw (le-leb i (length s) (omega (arith, front-inside f)), f.is)

-- a space before it: the year before Christ
era-read : (idx n : ℕ) (sign : _) {s : List ℕ} {i : ℕ} → has_sign sign ≡ false → 0 < n → From s i (32 ∷ 66 ∷ 67 ∷ []) → behind_digits s idx i sign n ≡ Ok (before_christ n)
unfolding behind_digits with_era parse_era_marker era_at negative_era era_end on_past stands_at begins pick
era-read idx n sign {s} {i} e h f =
    let g = front_rest f in
    let over = from-behind (66 ∷ 67 ∷ []) g in
    rw (
      front-go f Whitespace (lit< tt) space-white,
      front-stop g Whitespace (lit< tt) (not_white 66 (lit< tt) (lit< tt)),
      era-text 65 68 g,
      era-text 67 69 g,
      era-text 66 67 g,
      no_text 69 [] over,
      match-end Alphanumeric s (i + 1 + 2) (front-past over),
      e,
      ne_eqb n 0 (λ (z : n ≡ 0). omega arith),
    )

-- a year that is said is the one that is read
pub record YearSaid (s : List ℕ) (y : ℤ) : Type 0 where
  pub usual : Usual s
  pub reads : get_year s ≡ Ok y

-- if any is said
abbrev YearSays : List ℕ → Option ℤ → Type 0
YearSays s None = Unit {0}
YearSays s (Some y) = YearSaid s y

alone-said : {s : List ℕ} {n : ℕ} → n < 10000 → Number 4 s n → YearSaid s (pos n)
alone-said h (number d ds a l) = record { usual = number-usual (lit≤ tt) (number d ds a l); reads = digits-field d ds a l h }

era-printed : Each IsPrinted (32 ∷ 66 ∷ 67 ∷ [])
era-printed =
    more (record { low = lit≤ tt; high = lit< tt })
    (more (record { low = lit≤ tt; high = lit< tt }) (more (record { low = lit≤ tt; high = lit< tt }) nothing))

era-said : {s : List ℕ} {n : ℕ} → 0 < n → n < 10000 → Number 4 s n → YearSaid (s ++ 32 ∷ 66 ∷ 67 ∷ []) (before_christ n)
era-said p h (number d ds a l) =
    let u = bytes (d ∷ ds) in
    let f = from_start (u ++ 32 ∷ 66 ∷ 67 ∷ []) in
    record {
      usual = record { printed = each_append (digits-printed (d ∷ ds) a) era-printed; short = omega (arith, length-append u (32 ∷ 66 ∷ 67 ∷ []), length-bytes ds) };
      reads = no_sign d (bytes ds ++ 32 ∷ 66 ∷ 67 ∷ []) a.0 λ sign e _.
          digits-read d ds 0 sign a l h (other (lit< tt) (below-digits 32 (lit< tt))) f ∙ era-read 0 (value 0 (d ∷ ds)) sign e p (behind-digits (d ∷ ds) f);
    }

-- a text that ends with it
ends_so : (s : List ℕ) → 4 < length s → ends_with_era s ≡ true → take (length s - 3) s ++ 32 ∷ 66 ∷ 67 ∷ [] ≡ s
unfolding ends_with_era
ends_so s h e =
    let k = length s - 3 in
    let p = and-true (eqb (get_or s k 0) 32) _ e in
    let q = and-true (eqb (get_or s (length s - 2) 0) 66) _ p.1 in
    let b : get_or s (suc k) 0 ≡ 66 = ap (λ (i : ℕ). get_or s i 0) (omega arith) ∙ eqb-true _ 66 q.0 in
    let c : get_or s (suc (suc k)) 0 ≡ 67 = ap (λ (i : ℕ). get_or s i 0) (omega arith) ∙ eqb-true _ 67 q.1 in
    let end : drop k s ≡ 32 ∷ 66 ∷ 67 ∷ [] = spelled 3 k s (omega arith) ∙ rw (eqb-true (get_or s k 0) 32 p.0, b, c, drop_of_length-le s {i = 3 + k} (omega arith)) in
    ap (λ (l : List ℕ). take k s ++ l) (sym end) ∙ take-append-drop k s

era-says : (s : List ℕ) → 4 < length s → ends_with_era s ≡ true → YearSays s (era_year (number_of (take (length s - 3) s)))
unfolding era_year
era-says s h e =
    let u = take (length s - 3) s in
    by-test (YearSays s) (ltb 0 (number_of u) && ltb (number_of u) 10000)
    (λ t.
    let p = and-true (ltb 0 (number_of u)) _ t in
    let k = ltb-true (number_of u) 10000 p.1 in
    subst (λ (l : List ℕ). YearSaid l (before_christ (number_of u))) (ends_so s h e) (era-said (ltb-true 0 _ p.0) k (number-of u k)))
    (λ _. tt)

year-says : (s : List ℕ) → YearSays s (year_part s)
unfolding year_part
year-says s =
    by-test (YearSays s) (ltb (length s) 5)
    (λ _. by-test (YearSays s) (ltb (number_of s) 10000) (λ t. let k = ltb-true (number_of s) 10000 t in alone-said k (number-of s k)) (λ _. tt))
    (λ f. by-test (YearSays s) (ltb (length s) 8 && ends_with_era s)
    (λ t. era-says s (ltb-false (length s) 5 f) (and-true (ltb (length s) 8) _ t).1)
    (λ _. tt))

pub year-said : (s : List ℕ) {y : ℤ} → year_part s ≡ Some y → YearSaid s y
year-said s e = subst (YearSays s) e (year-says s)

-- ---- the month

-- a month that is said is the one that is read, up to the text's end
pub record MonthSaid (s : List ℕ) (m : Option Month) : Type 0 where
  pub usual : Usual s
  pub reads : month_field s ≡ Ok (m, cursor (length s))

abbrev MonthSays : List ℕ → Option (Option Month) → Type 0
MonthSays s None = Unit {0}
MonthSays s (Some m) = MonthSaid s m

few : (ds : List ℕ) → length ds < 2 → admits OneOrTwo (suc (length ds)) ≡ true
unfolding admits
few [] h = refl
few (d ∷ []) h = refl
few (d ∷ b ∷ ds) h = absurd (omega arith)

number-said : {s : List ℕ} {n : ℕ} → 0 < n → Number 2 s n → MonthSaid s (month (n - 1))
number-said h (number d ds a l) =
    record {
      usual = number-usual (lit≤ tt) (number d ds a l);
      reads = month-digits d ds a (few ds l) h ∙ ap (λ (k : ℕ). Ok (month (value 0 (d ∷ ds) - 1), cursor k)) (omega (arith, length-bytes ds));
    }

-- a letter
record IsName (x : ℕ) : Type 0 where
  letter : in_class AsciiAlphabetic x ≡ true
  low : 65 ≤ x
  high : x ≤ 122

is_name : (x : ℕ) → is_letter x ≡ true → IsName x
unfolding is_letter in_class is_ascii_alphabetic within
is_name x e =
    of_test (leb 65 x && leb x 90)
    (λ t.
    let p = and-true (leb 65 x) _ t in
    record { letter = e; low = leb-true 65 x p.0; high = omega (arith, leb-true x 90 p.1) })
    (λ t.
    let u : leb 97 x && leb x 122 ≡ true = rw t at e in
    let p = and-true (leb 97 x) _ u in
    record { letter = e; low = omega (arith, leb-true 97 x p.0); high = leb-true x 122 p.1 })

are-names : (s : List ℕ) → are_letters s ≡ true → Each IsName s
unfolding are_letters
are-names [] e = nothing
are-names (x ∷ s) e = let p = and-true (is_letter x) _ e in more (is_name x p.0) (are-names s p.1)

letters-run : {u s : List ℕ} {i : ℕ} → Each IsName u → From s i u → eat_while AsciiAlphabetic s i ≡ i + length u
letters-run {i = i} nothing f = front-end f AsciiAlphabetic ∙ sym (add-zero i)
letters-run (more h e) f = front-go f AsciiAlphabetic (omega (arith, h.high)) h.letter ∙ letters-run e (front_rest f) ∙ omega arith

-- no other class begins with one
no_run : (k : Class) {s : List ℕ} → ((x : ℕ) → IsName x → in_class k x ≡ false) → Each IsName s → Stops k s
no_run k f nothing = stops
no_run k f (more {x} h e) = other {c = x} (omega (arith, h.high)) (f x h)

name-white : (x : ℕ) → IsName x → in_class Whitespace x ≡ false
name-white x h = not_white x (omega (arith, h.low)) (omega (arith, h.high))

name-numeric : (x : ℕ) → IsName x → in_class Numeric x ≡ false
name-numeric x h = no-numeric x (omega (arith, h.high)) (above-digits x (omega (arith, h.low)))

name-read : (s : List ℕ) → Each IsName s → month_field s ≡ Ok (month_for s, cursor (length s))
unfolding month_field month_of named parse_unsigned_int run_at run_of admits part pick
name-read s e =
    let f = from_start s in
    rw (
      run_none (no_run Whitespace name-white e) f,
      run_none (no_run Numeric name-numeric e) f,
      letters-run e f,
      zero-add,
      sub-zero,
      take-length s,
    )

named-said : (s : List ℕ) {m : Option Month} → length s < 10 → Each IsName s → month_for s ≡ m → MonthSaid s m
named-said s l e f =
    record {
      usual = record { printed = each_of (λ x (h : IsName x). record { low = omega (arith, h.low); high = omega (arith, h.high) }) e; short = l };
      reads = name-read s e ∙ ap (λ (k : Option Month). Ok (k, cursor (length s))) f;
    }

found-says : (s : List ℕ) (m : Option Month) → (month_for s ≡ m → MonthSaid s m) → month_for s ≡ m → MonthSays s (some_month m)
unfolding some_month
found-says s None f e = tt
found-says s (Some m) f e = f e

named-says : (s : List ℕ) → MonthSays s (named_month s)
unfolding named_month
named-says s =
    by-test (MonthSays s) (ltb (length s) 10 && are_letters s)
    (λ t.
    let p = and-true (ltb (length s) 10) _ t in
    found-says s (month_for s) (named-said s (ltb-true (length s) 10 p.0) (are-names s p.1)) refl)
    (λ _. tt)

month-says : (s : List ℕ) → MonthSays s (month_part s)
unfolding month_part
month-says s =
    by-test (MonthSays s) (ltb (small_of s) 100)
    (λ t. by-test (MonthSays s) (eqb (small_of s) 0) (λ _. tt)
    (λ f. number-said (some-month (eqb-false (small_of s) 0 f)) (small_of_lem s (ltb-true (small_of s) 100 t))))
    (λ _. named-says s)
  where
    some-month : {n : ℕ} → (n ≡ 0 → ⊥) → 0 < n
    some-month {n} h = let z = h in omega arith

pub month-said : (s : List ℕ) {m : Option Month} → month_part s ≡ Some m → MonthSaid s m
month-said s e = subst (MonthSays s) e (month-says s)

-- no day stands behind it
pub month-alone : {s : List ℕ} {m : Option Month} → MonthSaid s m → month_text s ≡ Ok (m, None)
unfolding month_text on_month inside_day
month-alone {s} h = rw (h.reads, no_day s)

-- ---- the day

-- a day that is said is the one that is read, wherever its list stands
pub data DaySaid (s : List ℕ) : Option Day → Type 0 where
  given : {d : Day} → Usual s → ((span : FileSpan) → day_field s span ≡ Ok d) → DaySaid s (Some d)

abbrev DaySays : List ℕ → Option (Option Day) → Type 0
DaySays s None = Unit {0}
DaySays s (Some d) = DaySaid s d

number-given : {s : List ℕ} {n : ℕ} → 0 < n → n < 32 → Number 2 s n → DaySaid s (day (n - 1))
number-given p h (number d ds a l) = given (number-usual (lit≤ tt) (number d ds a l)) (λ span. day-digits d ds span a p h)

day-says : (s : List ℕ) → DaySays s (day_part s)
unfolding day_part
day-says s =
    by-test (DaySays s) (ltb 0 (small_of s) && ltb (small_of s) 32)
    (λ t.
    let p = and-true (ltb 0 (small_of s)) _ t in
    let h = ltb-true (small_of s) 32 p.1 in
    number-given (ltb-true 0 _ p.0) h (small_of_lem s (omega arith)))
    (λ _. tt)

pub day-said : (s : List ℕ) {d : Option Day} → day_part s ≡ Some d → DaySaid s d
day-said s e = subst (DaySays s) e (day-says s)
