-- The Dates whose written text is read back, and those that are read and not so.
use Rattle.std.specs.Prelude.{ℕ, ◌-◌, ◌<◌, ◌≡◌, Bool, List, ◌++◌, ◌⊎◌, pos, None}
use Prim.Native.Char.{code}
use Rattle.dates.specs.declared.Datetime.{Datetime}
use Rattle.dates.specs.declared.DateValue.{DateValue}
use Rattle.dates.specs.declared.DateValue.TheVariants.{Between}
use Rattle.chars.specs.Ascii.{ascii}
use Rattle.dates.specs.declared.Date.{Date}
use Rattle.dates.specs.Calendar.{month_length}
use Rattle.dates.specs.Domain.{EndIn}
use Rattle.dates.specs.Ends.{EachEnd}
use Rattle.dates.specs.Value.{datetime, date, month, day}
use Rattle.points.specs.Accepted.{Dated}
use Rattle.strict.specs.Digits.{digits}
use Rattle.strict.specs.Grammar.{Field, Mark}

-- every end of a Date
abbrev pub InDomain : DateValue → Type 0
InDomain v = EachEnd EndIn v

-- no end of a Date has a time
abbrev pub Untimed : DateValue → Type 0
Untimed v = EachEnd (λ (a : Datetime). a.time ≡ None) v

-- a day-XX range in a month under 31 days, from the first to the 31st: the only Date without a time that is read and not of the domain
pub data ShortMonthRange : DateValue → Type 0 where
  days_xx : (y m : ℕ) → y < 10000 → m < 12 → month_length m (pos y) < 31
      → ShortMonthRange (Between (datetime (pos y) (month m) (day 0) None) (datetime (pos y) (month m) (day 30) None))

-- every end is a date of the calendar, with a good time or none
abbrev pub AllDated : DateValue → Type 0
AllDated v = EachEnd Dated v

-- every Date that the ported reader gives: such a one, or the one exception
abbrev pub Known : DateValue → Type 0
Known v = AllDated v ⊎ ShortMonthRange v

-- the days of a month from the first to one of them
abbrev pub days_upto : ℕ → ℕ → ℕ → DateValue
days_upto y m last = Between (datetime (pos y) (month m) (day 0) None) (datetime (pos y) (month m) (day last) None)

-- a text dddd-mm-XX in a month under 31 days: the strict reader's range ends on the month's last day, the ported reader's on the 31st
pub data ShortDays : List ℕ → DateValue → DateValue → Type 0 where
  dddd_mm_XX : {s : List ℕ} {m : ℕ} (n : ℕ) → n < 10000 → Field (code "-") 1 12 s m → month_length m (pos n) < 31
      → ShortDays (digits 4 n ++ (s ++ ascii "-XX")) (days_upto n m (month_length m (pos n) - 1)) (days_upto n m 30)

-- the same with a mark behind it, or none, which both Dates have
pub data ShortText : List ℕ → Date → Date → Type 0 where
  short_text : {s t : List ℕ} {v w : DateValue} {u a : Bool} → ShortDays s v w → Mark t u a → ShortText (s ++ t) (date v u a) (date w u a)
