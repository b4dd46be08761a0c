-- What a reader answers, in seven words of 64 bits: numbers that are handed on in registers, and the words that a C caller gets.
use Rattle.std.specs.Prelude.{ℕ, ◌+◌, ◌*◌, ◌-◌, Bool, true, false, ℤ, pos, negsuc, Some, None, Result, Ok, Err, Option}
use Rattle.dates.specs.declared.Date.{Date}
use Rattle.dates.specs.declared.Day.{Day}
use Rattle.dates.specs.declared.Month.{Month}
use Rattle.refusals.specs.declared.Refusal.{Refusal}
use Rattle.dates.specs.declared.TimeOffset.{TimeOffset}
use Rattle.dates.specs.declared.TimeOffset.TheVariants.{Utc, Offset}
use Rattle.dates.specs.declared.Time.{Time}
use Rattle.dates.specs.declared.Datetime.{Datetime}
use Rattle.dates.specs.declared.DateValue.{DateValue}
use Rattle.dates.specs.declared.DateValue.TheVariants.{At, After, Before, Between}
use Rattle.dates.specs.Time.{time}
use Rattle.dates.specs.Value.{season_number}
use Rattle.refusals.specs.Refusal.{number}
use Rattle.codes.specs.declared.Words.{Words}

-- the largest number of 64 bits: it stands where nothing is said
abbrev pub nothing : ℕ
nothing = 0xFFFFFFFFFFFFFFFF

-- a year in two's complement of 32 bits
unfoldable pub twos : ℤ → ℕ
twos (pos n) = n
twos (negsuc n) = 4294967295 - n

-- a bool as a number
abbrev pub flag : Bool → ℕ
flag true = 1
flag false = 0

-- whether there is a month, as a number
abbrev pub has_month : Option Month → ℕ
has_month None = 0
has_month (Some m) = 1

-- the stored month, counted from zero; 0 if there is none
abbrev pub month_number : Option Month → ℕ
month_number None = 0
month_number (Some m) = m.0

-- whether there is a day
abbrev pub has_day : Option Day → ℕ
has_day None = 0
has_day (Some d) = 1

-- the stored day, counted from zero; 0 if there is none
abbrev pub day_number : Option Day → ℕ
day_number None = 0
day_number (Some d) = d.0

-- whether there is a time
abbrev pub has_time : Option Time → ℕ
has_time None = 0
has_time (Some t) = 1

-- the time; zeros and no offset if there is none
abbrev pub clock_of : Option Time → Time
clock_of None = time 0 0 0 None
clock_of (Some t) = t

-- UTC is 1, ahead of it 2, behind it 3
abbrev pub sort_of : TimeOffset → ℕ
sort_of Utc = 1
sort_of (Offset true hours minutes) = 2
sort_of (Offset false hours minutes) = 3

-- no offset is 0
abbrev pub offset_sort : Option TimeOffset → ℕ
offset_sort None = 0
offset_sort (Some o) = sort_of o

-- the offset; UTC if there is none
abbrev pub shift_of : Option TimeOffset → TimeOffset
shift_of None = Utc
shift_of (Some o) = o

-- the hours of an offset; UTC has none
abbrev pub hours_of : TimeOffset → ℕ
hours_of Utc = 0
hours_of (Offset positive hours minutes) = hours

-- the minutes likewise
abbrev pub minutes_of : TimeOffset → ℕ
minutes_of Utc = 0
minutes_of (Offset positive hours minutes) = minutes

-- the shape of a point or range, as a number
abbrev pub shape_of : DateValue → ℕ
shape_of (At d) = 0
shape_of (After d) = 1
shape_of (Before d) = 2
shape_of (Between a b) = 3

-- four bytes as a number: the first is the lowest
abbrev pub four_bytes : ℕ → ℕ → ℕ → ℕ → ℕ
four_bytes a b c d = a + 256 * b + 65536 * c + 16777216 * d

-- a year, then whether there is a month, the month, whether there is a day, the day, as a word: the first byte is the lowest
abbrev pub day_word_of : ℤ → ℕ → ℕ → ℕ → ℕ → ℕ
day_word_of y hm m hd d = twos y + 4294967296 * four_bytes hm m hd d

-- the eight bytes behind them: whether there is a time, hour, minute, second, and the offset's sort, hours, minutes, and the season
abbrev pub time_word_of : ℕ → ℕ → ℕ → ℕ → ℕ → ℕ → ℕ → ℕ → ℕ
time_word_of ht h m s o oh om season = four_bytes ht h m s + 4294967296 * four_bytes o oh om season

-- the last eight bytes of an answer: the shape, the two marks, a 0, the refusal, and zeros
abbrev pub last_word : ℕ → ℕ → ℕ → ℕ → ℕ
last_word shape u p refusal = four_bytes shape u p 0 + 4294967296 * four_bytes refusal 0 0 0

-- the first word of a Datetime
abbrev pub day_word : Datetime → ℕ
day_word d = day_word_of d.year (has_month d.month) (month_number d.month) (has_day d.day) (day_number d.day)

-- the same of a point that may be none
abbrev pub point_word : Option Datetime → ℕ
point_word None = nothing
point_word (Some d) = day_word d

-- a year's part of the word
abbrev pub year_word : Option ℤ → ℕ
year_word None = nothing
year_word (Some y) = twos y

-- a month's part
abbrev pub month_word : Option (Option Month) → ℕ
month_word None = nothing
month_word (Some m) = 4294967296 * (has_month m + 256 * month_number m)

-- a day's part
abbrev pub day_part_word : Option (Option Day) → ℕ
day_part_word None = nothing
day_part_word (Some d) = 281474976710656 * (has_day d + 256 * day_number d)

-- the second
abbrev pub time_word : Datetime → ℕ
time_word d =
    time_word_of (has_time d.time) (clock_of d.time).hour (clock_of d.time).minute (clock_of d.time).second
    (offset_sort (clock_of d.time).offset) (hours_of (shift_of (clock_of d.time).offset)) (minutes_of (shift_of (clock_of d.time).offset))
    (season_number d.season)

-- a clock's part of it, if there is one
abbrev pub clock_word : Bool → ℕ → ℕ → ℕ → ℕ
clock_word true h m s = four_bytes 1 h m s
clock_word false h m s = nothing

-- an offset's part, by its sort
abbrev pub shift_word : Bool → ℕ → ℕ → ℕ → ℕ
shift_word true sort h m = 4294967296 * four_bytes sort h m 0
shift_word false sort h m = nothing

-- the part of what stands behind the seconds
abbrev pub zone_word : Option (Option TimeOffset) → ℕ
zone_word None = nothing
zone_word (Some o) = shift_word true (offset_sort o) (hours_of (shift_of o)) (minutes_of (shift_of o))

-- the words of a place, two for each Datetime, and the last
abbrev pub words : ℕ → ℕ → ℕ → ℕ → ℕ → ℕ → ℕ → Words
words start end a at b bt last =
    record { start = start; end = end; first = a; first_time = at; second = b; second_time = bt; last = last }

-- those of a point or range, by its marks as numbers
abbrev pub value_words : DateValue → ℕ → ℕ → Words
value_words (At d) u p = words 0 0 (day_word d) (time_word d) 0 0 (last_word 0 u p 0)
value_words (After d) u p = words 0 0 (day_word d) (time_word d) 0 0 (last_word 1 u p 0)
value_words (Before d) u p = words 0 0 (day_word d) (time_word d) 0 0 (last_word 2 u p 0)
value_words (Between a b) u p = words 0 0 (day_word a) (time_word a) (day_word b) (time_word b) (last_word 3 u p 0)

-- the marks as they stand in the last word
abbrev pub marks_of : Bool → Bool → ℕ
marks_of u a = 256 * flag u + 65536 * flag a

-- the words of a point or range that may be none, by its marks in the last word
abbrev pub value_or : Option DateValue → ℕ → Words
value_or None marks = words 0 0 0 0 0 0 nothing
value_or (Some (At d)) marks = words 0 0 (day_word d) (time_word d) 0 0 marks
value_or (Some (After d)) marks = words 0 0 (day_word d) (time_word d) 0 0 (1 + marks)
value_or (Some (Before d)) marks = words 0 0 (day_word d) (time_word d) 0 0 (2 + marks)
value_or (Some (Between a b)) marks = words 0 0 (day_word a) (time_word a) (day_word b) (time_word b) (3 + marks)

-- what a reader answers: the Date with no refusal, or the refusal's number and place with no Date
abbrev pub words_of : Result Date Refusal → Words
words_of (Ok d) = value_words d.value (flag d.uncertain) (flag d.approximate)
words_of (Err e) = words e.place.0 e.place.1 0 0 0 0 (last_word 0 0 0 (number e.kind))

-- what is said at once, or that nothing is
abbrev pub words_or : Option (Result Date Refusal) → Words
words_or None = words 0 0 0 0 0 0 nothing
words_or (Some r) = words_of r
