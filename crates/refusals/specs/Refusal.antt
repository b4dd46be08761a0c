-- The refusals: a number for each, and which of them name a place.
use Rattle.std.specs.Prelude.{ℕ, Bool, true, false, List, [], ◌∷◌, get_or}
use Rattle.chars.specs.Pick.{pick}
use Rattle.refusals.specs.declared.Kind.{Kind}
use Rattle.refusals.specs.declared.Kind.TheVariants.{UndefinedRange, DayOutOfRange, MonthOutOfRange, InvalidNumber, MissingNumber, WrongNumberOfDigits, InvalidFormat, YearZeroCE, RustPanics, BadUtf8, UnsupportedChar, NotStrict, NoRoom, BadFrame, BadChunks, TooLong, NotACalendarDate, BadPeriod, DuplicateEntry, ChronologyFull, UnknownEntry, BadTime, NotLevelOne, HasSeason, NoInstant, BadChronology}
use Rattle.refusals.specs.declared.FileSpan.{FileSpan}
use Rattle.refusals.specs.declared.Refusal.{Refusal}

-- the number of a refusal: 1 to 8 are the Rust's kinds, 9 is its panic, the others are this port's
abbrev pub number : Kind → ℕ
number UndefinedRange = 1
number DayOutOfRange = 2
number MonthOutOfRange = 3
number InvalidNumber = 4
number MissingNumber = 5
number WrongNumberOfDigits = 6
number InvalidFormat = 7
number YearZeroCE = 8
number RustPanics = 9
number BadUtf8 = 10
number UnsupportedChar = 11
number NotStrict = 12
number NoRoom = 13
number BadFrame = 14
number BadChunks = 15
number TooLong = 16
number NotACalendarDate = 17
number BadPeriod = 18
number DuplicateEntry = 19
number ChronologyFull = 20
number UnknownEntry = 21
number BadTime = 22
number NotLevelOne = 23
number HasSeason = 24
number NoInstant = 25
number BadChronology = 26

-- the kinds by their numbers; the last stands at 0, which is none of theirs
abbrev pub kinds : List Kind
kinds = BadChronology ∷ UndefinedRange ∷ DayOutOfRange ∷ MonthOutOfRange ∷ InvalidNumber ∷ MissingNumber ∷ WrongNumberOfDigits ∷ InvalidFormat ∷ YearZeroCE ∷ RustPanics ∷ BadUtf8 ∷ UnsupportedChar ∷ NotStrict ∷ NoRoom ∷ BadFrame ∷ BadChunks ∷ TooLong ∷ NotACalendarDate ∷ BadPeriod ∷ DuplicateEntry ∷ ChronologyFull ∷ UnknownEntry ∷ BadTime ∷ NotLevelOne ∷ HasSeason ∷ NoInstant ∷ []

-- the kind of a number; of numbers that are none of theirs, the last
unfoldable pub kind_of : ℕ → Kind
kind_of n = get_or kinds n BadChronology

-- whether a refusal names a place; where it does not, its place is 0, 0
abbrev pub has_place : Kind → Bool
has_place UndefinedRange = true
has_place DayOutOfRange = true
has_place MonthOutOfRange = true
has_place InvalidNumber = true
has_place MissingNumber = true
has_place WrongNumberOfDigits = true
has_place InvalidFormat = true
has_place YearZeroCE = true
has_place RustPanics = false
has_place BadUtf8 = true
has_place UnsupportedChar = true
has_place NotStrict = false
has_place NoRoom = false
has_place BadFrame = false
has_place BadChunks = false
has_place TooLong = false
has_place NotACalendarDate = false
has_place BadPeriod = false
has_place DuplicateEntry = false
has_place ChronologyFull = false
has_place UnknownEntry = false
has_place BadTime = false
has_place NotLevelOne = false
has_place HasSeason = false
has_place NoInstant = false
has_place BadChronology = false

-- a place in the file, from a byte to another
abbrev pub file_span : ℕ → ℕ → FileSpan
file_span start end = record { 0 = start; 1 = end; 2 = tt }

-- the refusal of a kind at a place in the file
unfoldable pub refusal : Kind → FileSpan → Refusal
refusal k place = record { kind = k; place = pick (has_place k) place (file_span 0 0) }

-- a refusal that names no place
abbrev pub nowhere : Kind → Refusal
nowhere k = refusal k (file_span 0 0)

-- a refusal at a place of the lent bytes, from a byte to another: it is no place of the formatted text, and no span moves it
abbrev pub bytes_at : Kind → ℕ → ℕ → Refusal
bytes_at k start end = refusal k (file_span start end)
