-- X ranges: what a text with an X stands for, and at which place it is refused.
use Rattle.std.specs.Prelude.{ℕ, ◌+◌, ◌-◌, ◌*◌, ◌^◌, List, ltb, eqb, pos, Option, Some, None, Result, Ok, Err}
use Prim.Native.Char.{code}
use Rattle.chars.specs.Pick.{pick}
use Rattle.scanner.specs.declared.Class.TheVariants.{Whitespace, AsciiDigit, Is}
use Rattle.scanner.specs.Scan.{eat_while, done_at, part}
use Rattle.refusals.specs.declared.Kind.{Kind}
use Rattle.refusals.specs.declared.Kind.TheVariants.{MonthOutOfRange, WrongNumberOfDigits, InvalidFormat}
use Rattle.refusals.specs.Offset.{text_refusal, panics}
use Rattle.dates.specs.declared.Datetime.{Datetime}
use Rattle.refusals.specs.declared.TextRefusal.{TextRefusal}
use Rattle.scanner.specs.declared.Cursor.{Cursor}
use Rattle.dates.specs.Value.{datetime, month as stored, day}
use Rattle.numbers.specs.Parse.{parse}

-- no range, refused at an empty place
abbrev pub none_here : Kind → ℕ → Result (Datetime × Datetime) TextRefusal
none_here k at = Err (text_refusal k at at)

-- the run of hyphens from a place to another, and the white space behind it; an empty run is refused there
unfoldable pub hyphen_run : List ℕ → ℕ → ℕ → Result Cursor TextRefusal
hyphen_run s start end =
    pick (eqb (end - start) 0) (Err (text_refusal InvalidFormat end end)) (Ok (record { 0 = eat_while Whitespace s end }))

-- the run of hyphens at a place
unfoldable pub hyphen_from : List ℕ → ℕ → Result Cursor TextRefusal
hyphen_from s start = hyphen_run s start (eat_while (Is (code "-")) s start)

-- hyphens, and white space around them
unfoldable pub get_hyphen : List ℕ → ℕ → Result Cursor TextRefusal
get_hyphen s at = hyphen_from s (eat_while Whitespace s at)

-- behind the hyphen on; else its refusal
unfoldable pub on_hyphen : Result Cursor TextRefusal → (ℕ → Result (Datetime × Datetime) TextRefusal) → Result (Datetime × Datetime) TextRefusal
on_hyphen (Ok c) go = go c.0
on_hyphen (Err e) go = Err e

-- with the number that digits are on; digits that are none panic
unfoldable pub on_value : Option ℕ → (ℕ → Result (Datetime × Datetime) TextRefusal) → Result (Datetime × Datetime) TextRefusal
on_value (Some v) go = go v
on_value None go = Err panics

-- the years that begin with the digits, as many as the others leave open
unfoldable pub years : ℕ → ℕ → Result (Datetime × Datetime) TextRefusal
years digits variable =
    Ok (datetime (pos (digits * variable)) None None None, datetime (pos (digits * variable + (variable - 1))) None None None)

-- the months of a year: stored 0 to 11
unfoldable pub months : ℕ → Result (Datetime × Datetime) TextRefusal
months year = Ok (datetime (pos year) (stored 0) None None, datetime (pos year) (stored 11) None None)

-- the days of a month: stored 0 to 30, whatever its length
unfoldable pub days : ℕ → ℕ → Result (Datetime × Datetime) TextRefusal
days year m = Ok (datetime (pos year) (stored m) (day 0) None, datetime (pos year) (stored m) (day 30) None)

-- the second run of X, from a place to another: two of them, and what follows is not read
unfoldable pub second_run : ℕ → ℕ → ℕ → Result (Datetime × Datetime) TextRefusal
second_run start end year = pick (eqb (end - start) 2) (months year) (none_here InvalidFormat end)

-- at a place behind white space, behind XX for the months: the end, or a hyphen and a second XX
unfoldable pub second_at : List ℕ → ℕ → ℕ → Result (Datetime × Datetime) TextRefusal
second_at s at year =
    pick (done_at s at) (months year)
    (on_hyphen (get_hyphen s at) λ c. second_run c (eat_while (Is (code "X")) s c) year)

-- behind XX for the months white space may stand
unfoldable pub behind_months : List ℕ → ℕ → ℕ → Result (Datetime × Datetime) TextRefusal
behind_months s at year = second_at s (eat_while Whitespace s at) year

-- behind XX for the days, past white space: the end
unfoldable pub end_of_days : List ℕ → ℕ → ℕ → ℕ → Result (Datetime × Datetime) TextRefusal
end_of_days s at year m = pick (done_at s at) (days year m) (none_here InvalidFormat at)

-- the run of X for the days, from a place to another: two of them
unfoldable pub day_run : List ℕ → ℕ → ℕ → ℕ → ℕ → Result (Datetime × Datetime) TextRefusal
day_run s start end year m = pick (eqb (end - start) 2) (end_of_days s (eat_while Whitespace s end) year m) (none_here InvalidFormat end)

-- behind the month: a hyphen, XX, and the end
unfoldable pub behind_month : List ℕ → ℕ → ℕ → ℕ → Result (Datetime × Datetime) TextRefusal
behind_month s at year m = on_hyphen (get_hyphen s at) λ c. day_run s c (eat_while (Is (code "X")) s c) year m

-- the digits of a month from a place to another: two, and 01 to 12; 00 panics
unfoldable pub month_run : List ℕ → ℕ → ℕ → ℕ → Result (Datetime × Datetime) TextRefusal
month_run s start end year =
    pick (eqb (end - start) 2)
    (on_value (parse 255 (part s start end)) λ written.
    pick (eqb written 0) (Err panics)
    (pick (ltb 12 written) (Err (text_refusal MonthOutOfRange start end))
    (behind_month s end year (written - 1))))
    (Err (text_refusal WrongNumberOfDigits start end))

-- a month takes all digits that stand there: a third one is refused
unfoldable pub month : List ℕ → ℕ → ℕ → Result (Datetime × Datetime) TextRefusal
month s start year = month_run s start (eat_while AsciiDigit s start) year

-- the run of X behind the year's hyphen, from a place to another: none and a month, or two
unfoldable pub months_run : List ℕ → ℕ → ℕ → ℕ → Result (Datetime × Datetime) TextRefusal
months_run s start end year =
    pick (eqb (end - start) 0) (month s start year)
    (pick (eqb (end - start) 2) (behind_months s end year)
    (Err (text_refusal WrongNumberOfDigits start end)))

-- behind a year of four digits: a hyphen, then XX or a month
unfoldable pub behind_year : List ℕ → ℕ → ℕ → Result (Datetime × Datetime) TextRefusal
behind_year s at year = on_hyphen (get_hyphen s at) λ c. months_run s c (eat_while (Is (code "X")) s c) year

-- the run of X behind sure digits, from a place to another: it fills them up to four, and behind fewer than four nothing is read
unfoldable pub year_run : List ℕ → ℕ → ℕ → ℕ → Result (Datetime × Datetime) TextRefusal
year_run s start c end =
    pick (eqb (end - c) (4 - (c - start)))
    (on_value (parse 9999 (part s start c)) λ digits.
    pick (eqb (c - start) 4) (behind_year s end digits) (years digits (10 ^ (4 - (c - start)))))
    (Err (text_refusal WrongNumberOfDigits 0 end))

-- the sure digits from a place to another: above four the ported code panics, below two are too few
unfoldable pub digit_run : List ℕ → ℕ → ℕ → Result (Datetime × Datetime) TextRefusal
digit_run s start c =
    pick (ltb 4 (c - start)) (Err panics)
    (pick (ltb (c - start) 2) (Err (text_refusal WrongNumberOfDigits 0 c))
    (year_run s start c (eat_while (Is (code "X")) s c)))

-- the digits at a place
unfoldable pub range_from : List ℕ → ℕ → Result (Datetime × Datetime) TextRefusal
range_from s start = digit_run s start (eat_while AsciiDigit s start)

-- the range that a text with an X stands for
unfoldable pub range_dates : List ℕ → Result (Datetime × Datetime) TextRefusal
range_dates s = range_from s (eat_while Whitespace s 0)
