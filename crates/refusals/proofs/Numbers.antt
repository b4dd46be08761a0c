-- Which kinds name a place, told by their numbers.
-- Assumes nothing.
use mathlib.Core.Path.{◌≡◌, refl}
use mathlib.Core.Bool.{false}
use lib.Dec.{ltb, eqb}
use Rattle.chars.specs.Pick.{pick}
use Rattle.refusals.specs.declared.Kind.{Kind}
use Rattle.refusals.specs.declared.Kind.TheVariants.{UndefinedRange, DayOutOfRange, MonthOutOfRange, InvalidNumber, MissingNumber, WrongNumberOfDigits, InvalidFormat, YearZeroCE, RustPanics, BadUtf8, UnsupportedChar, NotStrict, NoRoom, BadFrame, BadChunks, TooLong, NotACalendarDate, BadPeriod, DuplicateEntry, ChronologyFull, UnknownEntry, BadTime, NotLevelOne, HasSeason, NoInstant, BadChronology}
use Rattle.refusals.specs.Refusal.{number, has_place}

pub by_number : (k : Kind) → has_place k ≡ pick (eqb (number k) 9) false (ltb (number k) 12)
unfolding pick
by_number UndefinedRange = refl
by_number DayOutOfRange = refl
by_number MonthOutOfRange = refl
by_number InvalidNumber = refl
by_number MissingNumber = refl
by_number WrongNumberOfDigits = refl
by_number InvalidFormat = refl
by_number YearZeroCE = refl
by_number RustPanics = refl
by_number BadUtf8 = refl
by_number UnsupportedChar = refl
by_number NotStrict = refl
by_number NoRoom = refl
by_number BadFrame = refl
by_number BadChunks = refl
by_number TooLong = refl
by_number NotACalendarDate = refl
by_number BadPeriod = refl
by_number DuplicateEntry = refl
by_number ChronologyFull = refl
by_number UnknownEntry = refl
by_number BadTime = refl
by_number NotLevelOne = refl
by_number HasSeason = refl
by_number NoInstant = refl
by_number BadChronology = refl
