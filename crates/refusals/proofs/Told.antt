-- A refusal is told by its number.
-- Assumes nothing.
use mathlib.Core.Path.{◌≡◌, refl, sym}
use Prim.Native.Nat.{ℕ, zero, suc, ◌<◌}
use native.Mathlib.Omega.{arith}
use lib.ListN.{get_or-eq_default}
use Rattle.refusals.specs.declared.Kind.{Kind}
use Rattle.refusals.specs.declared.Kind.TheVariants.{UndefinedRange, DayOutOfRange, MonthOutOfRange, InvalidNumber, MissingNumber, WrongNumberOfDigits, InvalidFormat, YearZeroCE, RustPanics, BadUtf8, UnsupportedChar, NotStrict, NoRoom, BadFrame, BadChunks, TooLong, NotACalendarDate, BadPeriod, DuplicateEntry, ChronologyFull, UnknownEntry, BadTime, NotLevelOne, HasSeason, NoInstant, BadChronology}
use Rattle.refusals.specs.Refusal.{number, kinds, kind_of}

-- each kind by its number
pub named : (k : Kind) → kind_of (number k) ≡ k
unfolding kind_of
named UndefinedRange = refl
named DayOutOfRange = refl
named MonthOutOfRange = refl
named InvalidNumber = refl
named MissingNumber = refl
named WrongNumberOfDigits = refl
named InvalidFormat = refl
named YearZeroCE = refl
named RustPanics = refl
named BadUtf8 = refl
named UnsupportedChar = refl
named NotStrict = refl
named NoRoom = refl
named BadFrame = refl
named BadChunks = refl
named TooLong = refl
named NotACalendarDate = refl
named BadPeriod = refl
named DuplicateEntry = refl
named ChronologyFull = refl
named UnknownEntry = refl
named BadTime = refl
named NotLevelOne = refl
named HasSeason = refl
named NoInstant = refl
named BadChronology = refl

-- a number that is none of 1 to m
abbrev pub NoneTo : ℕ → ℕ → Type 0
NoneTo n zero = Unit {0}
NoneTo n (suc m) = NoneTo n m × (n ≡ suc m → ⊥)

above : (n m : ℕ) → NoneTo n m → 0 < n → m < n
above n zero r h = h
above n (suc m) (r, q) h = let p = above n m r h in omega arith

-- before the first and behind the list stands the last
pub last-is : (n : ℕ) → NoneTo n 25 → BadChronology ≡ kind_of n
unfolding kind_of
last-is zero r = refl
last-is (suc n) r = sym (get_or-eq_default kinds BadChronology (above (suc n) 25 r (omega arith)))

-- 0 is no refusal, and a number fits a byte
pub number_in : (k : Kind) → (0 < number k) × (number k < 256)
number_in UndefinedRange = omega arith
number_in DayOutOfRange = omega arith
number_in MonthOutOfRange = omega arith
number_in InvalidNumber = omega arith
number_in MissingNumber = omega arith
number_in WrongNumberOfDigits = omega arith
number_in InvalidFormat = omega arith
number_in YearZeroCE = omega arith
number_in RustPanics = omega arith
number_in BadUtf8 = omega arith
number_in UnsupportedChar = omega arith
number_in NotStrict = omega arith
number_in NoRoom = omega arith
number_in BadFrame = omega arith
number_in BadChunks = omega arith
number_in TooLong = omega arith
number_in NotACalendarDate = omega arith
number_in BadPeriod = omega arith
number_in DuplicateEntry = omega arith
number_in ChronologyFull = omega arith
number_in UnknownEntry = omega arith
number_in BadTime = omega arith
number_in NotLevelOne = omega arith
number_in HasSeason = omega arith
number_in NoInstant = omega arith
number_in BadChronology = omega arith
