-- A written point, read back: the reader goes by places, and `From s i t` says what stands at one. One law for each step.
-- Assumes nothing.
use mathlib.Core.Path.{◌≡◌, refl, ap, ◌∙◌}
use mathlib.Core.Bool.{true, false}
use mathlib.Core.List.{List, [], ◌∷◌, ◌++◌}
use Prim.Native.Nat.{ℕ, suc, ◌+◌, ◌/◌, ◌%◌, ◌≤◌, ◌<◌}
use native.Mathlib.Omega.{arith}
use borrow.Author.Tests.{lt-ltb, le-ltb, le-leb, lt-leb}
use lib.Dec.{lit<}
use lib.IntN.{ℤ, pos, negsuc, nat_abs, neg_ℤ}
use lib.ListN.{length}
use Rattle.chars.specs.Pick.{pick}
use Rattle.scanner.specs.declared.Class.TheVariants.{Whitespace, Is}
use Rattle.scanner.specs.Scan.{done_at}
use Rattle.scanner.proofs.Front.{From, from_start, from-behind, front-inside, front_rest, front-stop, front-past, front-end}
use Rattle.refusals.specs.Offset.{text_refusal}
use Rattle.refusals.specs.declared.Kind.{Kind}
use Rattle.refusals.specs.declared.Kind.TheVariants.{MonthOutOfRange, DayOutOfRange}
use Rattle.numbers.specs.Number.{admits, cursor}
use Rattle.numbers.specs.declared.Digits.TheVariants.{OneOrTwo, Two, Four}
use Rattle.numbers.proofs.Reading.{bytes, value, AreDigits, Behind, end, digit-hyphen, hyphen, hyphen-hyphen, behind-white, front-ate, number_read, int-read, int-wrong, minus-read, minus-wrong}
use Rattle.dates.specs.Calendar.{month_length}
use Rattle.dates.specs.Domain.{PartsIn, EndIn}
use Rattle.dates.proofs.Lengths.{length_most}
use Rattle.dates.proofs.Whole.{three-parts}
use Rattle.dates.specs.Value.{day, datetime}
use Rattle.dates.specs.declared.Month.{Month}
use Rattle.dates.specs.declared.Day.{Day}
use Rattle.std.specs.Prelude.{Option, Some, None, Result, Ok, Err}
use Rattle.refusals.specs.declared.TextRefusal.{TextRefusal}
use Rattle.dates.specs.declared.Datetime.{Datetime}
use Rattle.points.specs.Step.{stored_part, part_at, month_at, day_at, hyphen_or, hyphen_from, hyphen_at, on_part, on_separator, or_end}
use Rattle.points.specs.Point.{windowed_int, short_year, long_of, long_year, short_or, year_at, on_year, behind_day, behind_month, behind_year, point}

-- the last two decimal digits of a number
abbrev pub two : ℕ → List ℕ
two n = (n / 10 % 10) ∷ (n % 10) ∷ []

-- the last four: the first of them, and the others
abbrev pub lead : ℕ → ℕ
lead n = n / 10 / 10 / 10 % 10

abbrev pub three : ℕ → List ℕ
three n = (n / 10 / 10 % 10) ∷ (n / 10 % 10) ∷ (n % 10) ∷ []

abbrev pub four : ℕ → List ℕ
four n = lead n ∷ three n

pub two_digits : (n : ℕ) → AreDigits (two n)
two_digits n = (omega arith, (omega arith, tt))

pub two-value : (n : ℕ) → n < 100 → value 0 (two n) ≡ n
two-value n h = omega arith

pub four_digits : (n : ℕ) → AreDigits (four n)
four_digits n = (omega arith, (omega arith, (omega arith, (omega arith, tt))))

pub four-value : (n : ℕ) → n < 10000 → value 0 (four n) ≡ n
four-value n h = omega arith

-- a year below 10000 has four digits, behind a minus if it is negative
abbrev pub year_bytes : ℤ → List ℕ
year_bytes (pos n) = bytes (four n)
year_bytes (negsuc n) = 0x2D ∷ bytes (four (suc n))

-- a month or a day, stored from zero and written from one, has a hyphen and two digits
abbrev pub part_bytes : ℕ → List ℕ
part_bytes n = 0x2D ∷ bytes (two (n + 1))

abbrev pub day_bytes : Option Day → List ℕ
day_bytes None = []
day_bytes (Some d) = part_bytes d.0

-- a day without a month is not written
abbrev pub tail_bytes : Option Month → Option Day → List ℕ
tail_bytes None d = []
tail_bytes (Some m) d = part_bytes m.0 ++ day_bytes d

-- the text of a Datetime without its time
abbrev pub written : Datetime → List ℕ
written d = year_bytes d.year ++ tail_bytes d.month d.day

-- the lengths that are admitted
two-admitted : admits OneOrTwo 2 ≡ true
unfolding admits
two-admitted = refl

four-short : admits Two 4 ≡ false
unfolding admits
four-short = refl

four-long : admits Four 4 ≡ true
unfolding admits
four-long = refl

-- a year of four digits, whatever may stand behind it
pub plain-year : (n : ℕ) {s t : List ℕ} → n < 10000 → Behind t → From s 0 (bytes (four n) ++ t) → year_at s 0 ≡ Ok (pos n, cursor 4)
unfolding year_at short_year windowed_int long_year long_of short_or
plain-year n h b f =
    rw (int-wrong (lead n) (three n) (four_digits n) b f Two four-short, int-read (lead n) (three n) (four_digits n) b f Four four-long, four-value n h)

-- the same behind a minus, 0000 too
pub minus-year : (n : ℕ) {s t : List ℕ} → n < 10000 → Behind t → From s 0 (0x2D ∷ bytes (four n) ++ t) → year_at s 0 ≡ Ok (neg_ℤ (pos n), cursor 5)
unfolding year_at short_year windowed_int long_year long_of short_or
minus-year n h b f =
    rw (minus-wrong (lead n) (three n) (four_digits n) b f Two four-short, minus-read (lead n) (three n) (four_digits n) b f Four four-long, four-value n h)

pub year_read : (y : ℤ) {s t : List ℕ} → nat_abs y < 10000 → Behind t → From s 0 (year_bytes y ++ t) → year_at s 0 ≡ Ok (y, cursor (0 + length (year_bytes y)))
year_read (pos n) h b f = plain-year n h b f
year_read (negsuc n) h b f = minus-year (suc n) h b f

-- a point goes on behind its year
pub on-year : (s : List ℕ) {y : ℤ} {i : ℕ} → year_at s 0 ≡ Ok (y, cursor i) → point s ≡ behind_year s i y
unfolding point on_year
on-year s e = rw e

-- two digits are a number, counted from the lowest
pub part-read : (n v low high : ℕ) (k : Kind) {s t : List ℕ} {i : ℕ} → v + low ≡ n → n < 100 → n ≤ high → Behind t → From s i (bytes (two n) ++ t) → part_at s i low high k ≡ Ok (v, cursor (i + 2))
unfolding part_at stored_part pick
part-read n v low high k {s} {t} {i} e h l b f =
    rw (number_read (n / 10 % 10) ((n % 10) ∷ []) (two_digits n) b f OneOrTwo two-admitted, two-value n h, le-ltb n low (omega arith), le-ltb high n l)
    (ap (λ (x : ℕ). Ok (x, cursor (i + 2))) (omega arith))

-- one hyphen before a digit
pub hyphen-read : (d : ℕ) {s t : List ℕ} {i : ℕ} → d < 10 → From s i (0x2D ∷ (48 + d) ∷ t) → hyphen_at s i ≡ Ok (cursor (i + 1))
unfolding hyphen_at hyphen_from hyphen_or
hyphen-read d h f =
    rw (behind-white hyphen f, front-ate f (Is 0x2D) (lit< tt) hyphen-hyphen, front-stop (front_rest f) (Is 0x2D) (omega arith) (digit-hyphen d h))

-- the end of the text, or more
pub or-end : {A : Type 0} {s : List ℕ} {i : ℕ} (e : A) (go : ℕ → A) → From s i [] → or_end s i e go ≡ e
unfolding or_end done_at pick
or-end {A} {s} {i} e go f = rw (front-end f Whitespace, le-leb (length s) i (front-past f))

pub or-more : {A : Type 0} {s t : List ℕ} {i c : ℕ} (e : A) (go : ℕ → A) → Behind (c ∷ t) → From s i (c ∷ t) → or_end s i e go ≡ go i
unfolding or_end done_at pick
or-more {A} {s} {t} {i} e go b f = rw (behind-white b f, lt-leb (length s) i (front-inside f))

pub year-end : (y : ℤ) {s : List ℕ} {i : ℕ} → From s i [] → behind_year s i y ≡ Ok (datetime y None None None)
unfolding behind_year
year-end y f = or-end _ _ f

pub month_read : (y : ℤ) (m : ℕ) {s t : List ℕ} {i : ℕ} → m < 12 → Behind t → From s i (part_bytes m ++ t) → behind_year s i y ≡ behind_month s (i + 1 + 2) y (record { 0 = m })
unfolding behind_year month_at on_separator on_part
month_read y m h b f =
    rw (
      or-more {A = Result Datetime TextRefusal} (Ok (datetime y None None None)) _ hyphen f,
      hyphen-read ((m + 1) / 10 % 10) (omega arith) f,
      part-read (m + 1) m 1 12 MonthOutOfRange refl (omega arith) (omega arith) b (front_rest f),
    )

pub month-end : (y : ℤ) (m : Month) {s : List ℕ} {i : ℕ} → From s i [] → behind_month s i y m ≡ Ok (datetime y (Some m) None None)
unfolding behind_month
month-end y m f = or-end _ _ f

pub day_read : (y : ℤ) (m : Month) (d : ℕ) {s t : List ℕ} {i : ℕ} → d < month_length m.0 y → d < 31 → Behind t → From s i (part_bytes d ++ t) → behind_month s i y m ≡ behind_day s (i + 1 + 2) y (Some m) (day d)
unfolding behind_month day_at on_separator on_part pick
day_read y m d l h b f =
    rw (
      or-more {A = Result Datetime TextRefusal} (Ok (datetime y (Some m) None None)) _ hyphen f,
      hyphen-read ((d + 1) / 10 % 10) (omega arith) f,
      part-read (d + 1) d 1 31 DayOutOfRange refl (omega arith) (omega arith) b (front_rest f),
      lt-ltb d (month_length m.0 y) l,
    )

-- a day that the month does not have
pub day_past : (y : ℤ) (m : Month) (d : ℕ) {s t : List ℕ} {i : ℕ} → month_length m.0 y ≤ d → d < 31 → Behind t → From s i (part_bytes d ++ t) → behind_month s i y m ≡ Err (text_refusal DayOutOfRange 0 (i + 1 + 2))
unfolding behind_month day_at on_separator on_part pick
day_past y m d l h b f =
    rw (
      or-more {A = Result Datetime TextRefusal} (Ok (datetime y (Some m) None None)) _ hyphen f,
      hyphen-read ((d + 1) / 10 % 10) (omega arith) f,
      part-read (d + 1) d 1 31 DayOutOfRange refl (omega arith) (omega arith) b (front_rest f),
      le-ltb d (month_length m.0 y) l,
    )

pub day-end : (y : ℤ) (m : Option Month) (d : Option Day) {s : List ℕ} {i : ℕ} → From s i [] → behind_day s i y m d ≡ Ok (datetime y m d None)
unfolding behind_day
day-end y m d f = or-end _ _ f

-- what stands behind a separator and two digits
pub two-behind : {a b c : ℕ} {s t : List ℕ} {i : ℕ} → From s i (a ∷ b ∷ c ∷ t) → From s (i + 1 + 2) t
two-behind {a} {b} {c} f = from-behind (b ∷ c ∷ []) (front_rest f)

-- month and day behind the year
tail-read : (y : ℤ) (m : Option Month) (d : Option Day) {s : List ℕ} {i : ℕ} → PartsIn y m d → From s i (tail_bytes m d) → behind_year s i y ≡ Ok (datetime y m d None)
tail-read y None None h f = year-end y f
tail-read y None (Some d) h f = absurd h
tail-read y (Some m) None h f = month_read y m.0 h end f ∙ month-end y m (two-behind f)
tail-read y (Some m) (Some d) h f =
    let g = two-behind f in
    month_read y m.0 h.0 hyphen f
    ∙ day_read y m d.0 h.1 (omega (arith, length_most m.0 y, h.1)) end g
    ∙ day-end y (Some m) (Some d) (two-behind g)

behind-tail : (m : Option Month) (d : Option Day) → Behind (tail_bytes m d)
behind-tail None d = end
behind-tail (Some m) d = hyphen

-- a written point, read, is the point
pub point-back : (d : Datetime) → EndIn d → point (written d) ≡ Ok d
point-back d w =
    let y = d.year in
    let f = from_start (written d) in
    on-year (written d) (year_read y w.year_in (behind-tail d.month d.day) f)
    ∙ tail-read y d.month d.day w.parts_in (from-behind (year_bytes y) f)
    ∙ ap (λ (a : Datetime). Ok a) (three-parts d w)

-- a written point with a day that its month does not have is refused, from its start to its end
pub point-past : (y : ℤ) (m d : ℕ) → nat_abs y < 10000 → m < 12 → d < 31 → month_length m y ≤ d → point (year_bytes y ++ (part_bytes m ++ part_bytes d)) ≡ Err (text_refusal DayOutOfRange 0 (length (year_bytes y) + 6))
unfolding point on_year
point-past y m d h l k g =
    let f = from_start (year_bytes y ++ (part_bytes m ++ part_bytes d)) in
    let a = from-behind (year_bytes y) f in
    rw (year_read y h hyphen f, month_read y m l hyphen a, day_past y (record { 0 = m }) d g k end (two-behind a))
    (ap (λ (n : ℕ). Err (text_refusal DayOutOfRange 0 n)) (omega arith))
