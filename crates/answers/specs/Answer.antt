-- The answer to a frame: bytes, and the line of hexadecimal digits that says them.
use Prim.Native.Char.{code}
use Rattle.std.specs.Prelude.{ℕ, ◌+◌, ◌-◌, ◌*◌, ◌/◌, ◌%◌, Bool, true, false, List, [], ◌∷◌, ◌++◌, ltb, Option, Some, None, Result, Ok, Err}
use Rattle.chars.specs.Pick.{pick}
use Rattle.refusals.specs.declared.Refusal.{Refusal}
use Rattle.refusals.specs.Refusal.{number}
use Rattle.dates.specs.declared.Day.{Day}
use Rattle.dates.specs.declared.Month.{Month}
use Rattle.dates.specs.declared.Time.{Time}
use Rattle.dates.specs.declared.TimeOffset.{TimeOffset}
use Rattle.dates.specs.declared.TimeOffset.TheVariants.{Utc, Offset}
use Rattle.dates.specs.declared.Datetime.{Datetime}
use Rattle.dates.specs.declared.DateValue.{DateValue}
use Rattle.dates.specs.declared.DateValue.TheVariants.{At, After, Before, Between}
use Rattle.dates.specs.declared.Date.{Date}
use Rattle.dates.specs.Value.{season_number}
use Rattle.codes.specs.Words.{twos}
use Rattle.writer.specs.Texts.{date_text}
use Rattle.puts.specs.Answers.{measured}
use Rattle.writer.specs.Answers.{date_measured}
use Rattle.writer.specs.Level.{level_text, level_panics}

-- a hexadecimal digit, in lower case
unfoldable pub glyph : ℕ → ℕ
glyph d = pick (ltb d 10) (code "0" + d) (code "a" + (d - 10))

-- bytes as digits, the high one first
unfoldable pub hex_text : List ℕ → List ℕ
hex_text [] = []
hex_text (b ∷ l) = glyph (b / 16) ∷ glyph (b % 16) ∷ hex_text l

-- a number in four bytes, the high one first
abbrev pub word_bytes : ℕ → List ℕ
word_bytes n = (n / 16777216 % 256) ∷ (n / 65536 % 256) ∷ (n / 256 % 256) ∷ (n % 256) ∷ []

-- in eight bytes, as a place in a file needs them
abbrev pub long_bytes : ℕ → List ℕ
long_bytes n = word_bytes (n / 4294967296) ++ word_bytes (n % 4294967296)

-- a stored month; ff if it is absent
unfoldable pub month_byte : Option Month → ℕ
month_byte None = 255
month_byte (Some m) = m.0

-- a stored day likewise
unfoldable pub day_byte : Option Day → ℕ
day_byte None = 255
day_byte (Some d) = d.0

-- an offset: 1 UTC, 2 plus, 3 minus; then its hours and minutes
unfoldable pub shift_bytes : TimeOffset → List ℕ
shift_bytes Utc = 1 ∷ 0 ∷ 0 ∷ []
shift_bytes (Offset true h m) = 2 ∷ h ∷ m ∷ []
shift_bytes (Offset false h m) = 3 ∷ h ∷ m ∷ []

-- zeros if it is absent
unfoldable pub offset_bytes : Option TimeOffset → List ℕ
offset_bytes None = 0 ∷ 0 ∷ 0 ∷ []
offset_bytes (Some o) = shift_bytes o

-- a time: 01, hour, minute, second and the offset; zeros if it is absent
unfoldable pub time_bytes : Option Time → List ℕ
time_bytes None = 0 ∷ 0 ∷ 0 ∷ 0 ∷ 0 ∷ 0 ∷ 0 ∷ []
time_bytes (Some t) = 1 ∷ t.hour ∷ t.minute ∷ t.second ∷ offset_bytes t.offset

-- a Datetime: the year, the month and the day, the time
unfoldable pub datetime_bytes : Datetime → List ℕ
datetime_bytes d = word_bytes (twos d.year) ++ ((month_byte d.month ∷ day_byte d.day ∷ []) ++ time_bytes d.time)

-- one end; by level one its season comes last, which is 0 if it is absent
unfoldable pub end_bytes : Bool → Datetime → List ℕ
end_bytes true d = datetime_bytes d ++ (season_number d.season ∷ [])
end_bytes false d = datetime_bytes d

-- how many bytes that are
unfoldable pub end_length : Bool → ℕ
end_length true = 14
end_length false = 13

-- the shapes by their numbers
unfoldable pub shape : DateValue → ℕ
shape (At a) = 0
shape (After a) = 1
shape (Before a) = 2
shape (Between a b) = 3

-- each Datetime of a point or a range
unfoldable pub ends_bytes : Bool → DateValue → List ℕ
ends_bytes level (At a) = end_bytes level a
ends_bytes level (After a) = end_bytes level a
ends_bytes level (Before a) = end_bytes level a
ends_bytes level (Between a b) = end_bytes level a ++ end_bytes level b

-- a mark is 1 where it stands
unfoldable pub bit : Bool → ℕ
bit true = 1
bit false = 0

-- the marks: bit 0 uncertain, bit 1 approximate
unfoldable pub marks : Bool → Bool → ℕ
marks uncertain approximate = bit uncertain + 2 * bit approximate

-- 00, a shape, marks, Datetimes, and a text
abbrev pub bytes_with : ℕ → ℕ → List ℕ → List ℕ → List ℕ
bytes_with n m ends text = (0 ∷ n ∷ m ∷ []) ++ (ends ++ text)

-- a Date with its written text
unfoldable pub accepted_bytes : Bool → Date → List ℕ → List ℕ
accepted_bytes level d text = bytes_with (shape d.value) (marks d.uncertain d.approximate) (ends_bytes level d.value) text

-- a refusal by its number, with its place from start to end
abbrev pub refusal_bytes : ℕ → ℕ → ℕ → List ℕ
refusal_bytes n start end = (n ∷ []) ++ (long_bytes start ++ long_bytes end)

-- a refusal
unfoldable pub refused_bytes : Refusal → List ℕ
refused_bytes e = refusal_bytes (number e.kind) e.place.0 e.place.1

-- a line: the digits of bytes and a line feed
abbrev pub line_of : List ℕ → List ℕ
line_of bytes = hex_text bytes ++ (0x0A ∷ [])

-- the line of a Date, whose written text is given: a Date that cannot be written has none
abbrev pub accepted_line : Bool → Date → List ℕ → List ℕ
accepted_line level d text = line_of (accepted_bytes level d text)

-- the line of a refusal: always 17 bytes, so 35 characters
abbrev pub refused_line : Refusal → List ℕ
refused_line e = line_of (refused_bytes e)

-- the line of a text that was measured: of the Date with it, or of the refusal
unfoldable pub measured_line : Bool → Date → List ℕ → Result ℕ Refusal → List ℕ
measured_line level d text (Ok n) = accepted_line level d text
measured_line level d text (Err e) = refused_line e

-- the line of what a reader answered; where the Date cannot be written, that is the refusal
unfoldable pub answer_line : Result Date Refusal → List ℕ
answer_line (Ok d) = measured_line false d (date_text d) (date_measured d (date_text d))
answer_line (Err e) = refused_line e

-- the line of what the reader of level one answered: with the seasons, and its own writer's text
unfoldable pub level_line : Result Date Refusal → List ℕ
level_line (Ok d) = measured_line true d (level_text d) (measured (level_panics d) (level_text d))
level_line (Err e) = refused_line e
