-- The strict grammar, as derivations: a value of `Text s d` is a derivation of the text s, and d is the Date that it says.
-- A piece that is optional is a type with one case for its absence, whose text is empty.
use Rattle.std.specs.Prelude.{ℕ, ◌+◌, ◌-◌, ◌*◌, ◌≤◌, ◌<◌, Bool, true, false, List, [], ◌∷◌, ◌++◌, ℤ, pos, neg_ℤ, Option, Some, None}
use Prim.Native.Char.{code}
use Rattle.dates.specs.declared.Day.{Day}
use Rattle.dates.specs.declared.Month.{Month}
use Rattle.dates.specs.declared.Time.{Time}
use Rattle.dates.specs.declared.TimeOffset.{TimeOffset}
use Rattle.dates.specs.declared.TimeOffset.TheVariants.{Utc, Offset}
use Rattle.dates.specs.declared.Datetime.{Datetime}
use Rattle.dates.specs.declared.DateValue.{DateValue}
use Rattle.dates.specs.declared.DateValue.TheVariants.{At, After, Before, Between}
use Rattle.dates.specs.declared.Date.{Date}
use Rattle.dates.specs.Value.{datetime, date, month, day}
use Rattle.dates.specs.Calendar.{month_length}
use Rattle.chars.specs.Ascii.{ascii}
use Rattle.strict.specs.Digits.{digits}

-- dddd or -dddd
pub data Year : List ℕ → ℤ → Type 0 where
  dddd : (n : ℕ) → n < 10000 → Year (digits 4 n) (pos n)
  -dddd : (n : ℕ) → n < 10000 → Year (code "-" ∷ digits 4 n) (neg_ℤ (pos n))

-- a character and two digits, a number from the first to the last one given; it is counted from the first
pub data Field (c first last : ℕ) : List ℕ → ℕ → Type 0 where
  field : (n : ℕ) → first + n ≤ last → Field c first last (c ∷ digits 2 (first + n)) n

-- optionally Z, +hh:mm or -hh:mm
pub data Zone : List ℕ → Option TimeOffset → Type 0 where
  no_zone : Zone [] None
  z : Zone (ascii "Z") (Some Utc)
  ahead : {s t : List ℕ} {h m : ℕ} → Field (code "+") 0 23 s h → Field (code ":") 0 59 t m → Zone (s ++ t) (Some (Offset true h m))
  behind : {s t : List ℕ} {h m : ℕ} → Field (code "-") 0 23 s h → Field (code ":") 0 59 t m → Zone (s ++ t) (Some (Offset false h m))

-- optionally Thh:mm:ss, then a zone
pub data Clock : List ℕ → Option Time → Type 0 where
  no_time : Clock [] None
  hh:mm:ss : {s t u v : List ℕ} {h m sec : ℕ} {o : Option TimeOffset}
      → Field (code "T") 0 23 s h → Field (code ":") 0 59 t m → Field (code ":") 0 59 u sec → Zone v o
      → Clock (s ++ (t ++ (u ++ v))) (Some (record { hour = h; minute = m; second = sec; offset = o }))

-- optionally -dd that the month of the year has, then a time
pub data InMonth (y : ℤ) (m : ℕ) : List ℕ → Option Day → Option Time → Type 0 where
  no_day : InMonth y m [] None None
  -dd : {s t : List ℕ} {d : ℕ} {c : Option Time} → Field (code "-") 1 (month_length m y) s d → Clock t c → InMonth y m (s ++ t) (day d) c

-- optionally -mm, then a day
pub data InYear (y : ℤ) : List ℕ → Option Month → Option Day → Option Time → Type 0 where
  no_month : InYear y [] None None None
  -mm : {s t : List ℕ} {m : ℕ} {d : Option Day} {c : Option Time} → Field (code "-") 1 12 s m → InMonth y m t d c → InYear y (s ++ t) (month m) d c

-- a point: a year, then a month
pub data Point : List ℕ → Datetime → Type 0 where
  point : {s t : List ℕ} {y : ℤ} {m : Option Month} {d : Option Day} {c : Option Time} → Year s y → InYear y t m d c → Point (s ++ t) (datetime y m d c)

-- a year without a sign, and perhaps a month and a day
abbrev pub plain : ℕ → Option Month → Option Day → Datetime
plain n m d = datetime (pos n) m d None

-- the last day of a month of a year, counted from zero
unfoldable pub last_day : ℕ → ℕ → ℕ
last_day m n = month_length m (pos n) - 1

-- two digits and XX, three digits and X, dddd-XX, dddd-XX-XX or dddd-mm-XX: from the first that it may be to the last
pub data Unknown : List ℕ → DateValue → Type 0 where
  dd_xx : (n : ℕ) → n < 100 → Unknown (digits 2 n ++ ascii "XX") (Between (plain (n * 100) None None) (plain (n * 100 + 99) None None))
  ddd_x : (n : ℕ) → n < 1000 → Unknown (digits 3 n ++ ascii "X") (Between (plain (n * 10) None None) (plain (n * 10 + 9) None None))
  dddd_XX : (n : ℕ) → n < 10000 → Unknown (digits 4 n ++ ascii "-XX") (Between (plain n (month 0) None) (plain n (month 11) None))
  dddd_XX_XX : (n : ℕ) → n < 10000 → Unknown (digits 4 n ++ ascii "-XX-XX") (Between (plain n (month 0) None) (plain n (month 11) None))
  dddd_mm_XX : {s : List ℕ} {m : ℕ} (n : ℕ) → n < 10000 → Field (code "-") 1 12 s m
      → Unknown (digits 4 n ++ (s ++ ascii "-XX")) (Between (plain n (month m) (day 0)) (plain n (month m) (day (last_day m n))))

-- a text without its mark, over a kind of points: what is said of ranges and marks holds for any
pub data Value (P : List ℕ → Datetime → Type 0) : List ℕ → DateValue → Type 0 where
  alone : {s : List ℕ} {a : Datetime} → P s a → Value P s (At a)
  between : {s t : List ℕ} {a b : Datetime} → P s a → P t b → Value P (s ++ (ascii "/" ++ t)) (Between a b)
  after : {s : List ℕ} {a : Datetime} → P s a → Value P (s ++ ascii "/..") (After a)
  before : {s : List ℕ} {a : Datetime} → P s a → Value P (ascii "../" ++ s) (Before a)
  unknown : {s : List ℕ} {v : DateValue} → Unknown s v → Value P s v

-- at most one mark: ? is uncertain, ~ approximate, % both
pub data Mark : List ℕ → Bool → Bool → Type 0 where
  no_mark : Mark [] false false
  uncertain : Mark (ascii "?") true false
  approximate : Mark (ascii "~") false true
  both : Mark (ascii "%") true true

-- a text over a kind of points: a value, then a mark
pub data TextOf (P : List ℕ → Datetime → Type 0) : List ℕ → Date → Type 0 where
  text : {s t : List ℕ} {v : DateValue} {u a : Bool} → Value P s v → Mark t u a → TextOf P (s ++ t) (date v u a)

-- a text of the strict grammar
abbrev pub Text : List ℕ → Date → Type 0
Text = TextOf Point
