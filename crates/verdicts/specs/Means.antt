-- What plain cells say: the year, the month and the day by their numbers or names, and the date that six cells are.
use Prim.Native.Char.{code}
use Rattle.std.specs.Prelude.{ℕ, ◌+◌, ◌≤◌, ◌<◌, ◌≡◌, true, false, List, [], ◌∷◌, ◌++◌, ℤ, pos, neg_ℤ, length, Option, Some, None}
use Rattle.chars.specs.Ascii.{ascii}
use Rattle.dates.specs.declared.Month.{Month}
use Rattle.dates.specs.declared.Day.{Day}
use Rattle.dates.specs.declared.Datetime.{Datetime}
use Rattle.dates.specs.declared.DateValue.{DateValue}
use Rattle.dates.specs.declared.DateValue.TheVariants.{At, After, Before, Between}
use Rattle.dates.specs.Value.{month, day}
use Rattle.numbers.specs.Parse.{AllDigits, decimal_value}
use Rattle.fields.specs.Year.{before_christ}
use Rattle.fields.specs.Names.{month_for}
use Rattle.verdicts.specs.Fields.{Cells, is_given, some_given}

-- the year that n and an era, behind one space, say: n BC is 1 - n
pub data EraMeans (n : ℕ) : List ℕ → ℤ → Type 0 where
  ad : EraMeans n (ascii " AD") (pos n)
  ce : EraMeans n (ascii " CE") (pos n)
  bc : EraMeans n (ascii " BC") (before_christ n)
  bce : EraMeans n (ascii " BCE") (before_christ n)

-- the year that a cell says: four digits, behind a minus or not, or one to four and an era
pub data YearMeans : List ℕ → ℤ → Type 0 where
  four_digits : {s : List ℕ} → AllDigits s → length s ≡ 4 → YearMeans s (pos (decimal_value s))
  minus_digits : {s : List ℕ} → AllDigits s → length s ≡ 4 → YearMeans (code "-" ∷ s) (neg_ℤ (pos (decimal_value s)))
  era_digits : (s : List ℕ) {t : List ℕ} {y : ℤ} → AllDigits s → 0 < length s → length s ≤ 4 → 0 < decimal_value s → EraMeans (decimal_value s) t y → YearMeans (s ++ t) y

-- the month that a cell says: a number from 1 on, stored less 1, or a name; an empty cell says none
pub data MonthMeans : List ℕ → Option Month → Type 0 where
  month_empty : MonthMeans [] None
  month_number : {s : List ℕ} {n : ℕ} → AllDigits s → decimal_value s ≡ n + 1 → MonthMeans s (month n)
  month_name : {s : List ℕ} {m : Month} → month_for s ≡ Some m → MonthMeans s (Some m)

-- the day likewise: a number from 1 on, stored less 1
pub data DayMeans : List ℕ → Option Day → Type 0 where
  day_empty : DayMeans [] None
  day_number : {s : List ℕ} {n : ℕ} → AllDigits s → decimal_value s ≡ n + 1 → DayMeans s (day n)

-- a Datetime is what the three cells say, and has no time and no season
pub record Means (c : Cells) (a : Datetime) : Type 0 where
  -- its year is the one that the year's cell says
  pub year : YearMeans c.year a.year
  -- and so with its month
  pub month : MonthMeans c.month a.month
  -- and its day
  pub day : DayMeans c.day a.day
  -- no cell says a time
  pub time : a.time ≡ None
  -- nor a season
  pub season : a.season ≡ None

-- a date is what the six cells say: one without an end, whose cells are empty; or a range with an end
abbrev pub MeansIn : Cells → Cells → DateValue → Type 0
MeansIn start end (At a) = (some_given end ≡ false) × Means start a
MeansIn start end (After a) = ⊥
MeansIn start end (Before a) = ⊥
MeansIn start end (Between a b) = (is_given end.year ≡ true) × Means start a × Means end b
