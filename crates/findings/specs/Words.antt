-- The words of a finding: what is said of a date, and of a row that is none.
use Rattle.std.specs.Prelude.{ℕ, Bool, true, false, List, [], ◌++◌, leb, eqb}
use Rattle.chars.specs.Pick.{pick}
use Rattle.chars.specs.Ascii.{ascii}
use Rattle.refusals.specs.declared.Refusal.{Refusal}
use Rattle.refusals.specs.Refusal.{number, has_place}
use Rattle.puts.specs.Numbers.{decimal}
use Rattle.verdicts.specs.declared.Verdict.{Verdict}
use Rattle.verdicts.specs.declared.Verdict.TheVariants.{NoDate, Full, NotStrict, ShortYear, Unread, Refused}
use Rattle.verdicts.specs.Plain.{written_text}
use Rattle.csv_rows.specs.declared.Fault.{Fault}
use Rattle.csv_rows.specs.declared.Fault.TheVariants.{QuoteInside, TextBehind, LoneReturn, NeverClosed, TooLong, TooMany}
use Rattle.headers.specs.declared.RowFault.{RowFault}
use Rattle.headers.specs.declared.RowFault.TheVariants.{Broken, Cells, BadUtf8, LongCell}

-- words, and a number behind them
abbrev pub counted : List ℕ → ℕ → List ℕ
counted words n = words ++ decimal 1 n

-- a place or a count as it is said: one above 4,294,967,295 as that
unfoldable pub capped : ℕ → ℕ
capped n = pick (leb n 4294967295) n 4294967295

-- words, and a place or a count behind them
abbrev pub placed : List ℕ → ℕ → List ℕ
placed words n = counted words (capped n)

-- the words of a refusal's kind, by its number
unfoldable pub kind_words : ℕ → List ℕ
kind_words n =
    pick (eqb n 1) (ascii "a range that is open on both sides")
    (pick (eqb n 2) (ascii "no such day")
    (pick (eqb n 3) (ascii "no such month")
    (pick (eqb n 4) (ascii "not a number, or out of its range")
    (pick (eqb n 5) (ascii "a number is missing")
    (pick (eqb n 6) (ascii "too few or too many digits")
    (pick (eqb n 7) (ascii "not in the form of a date")
    (pick (eqb n 8) (ascii "an era has no year zero")
    (pick (eqb n 9) (ascii "the typesetting run would stop here")
    (pick (eqb n 10) (ascii "bytes that are not UTF-8")
    (pick (eqb n 11) (ascii "a character that no date has")
    (pick (eqb n 16) (ascii "longer than 4,096 bytes")
    (ascii "not read"))))))))))))

-- the place of a refusal, if its kind has one
unfoldable pub place_words : Refusal → List ℕ
place_words e =
    pick (has_place e.kind) (placed (ascii ", at ") e.place.0 ++ placed (ascii "..") e.place.1) []

-- a refusal
unfoldable pub refusal_words : Refusal → List ℕ
refusal_words e = kind_words (number e.kind) ++ place_words e

-- said of a year of two digits
unfoldable pub window_words : Bool → List ℕ
window_words windowed = pick windowed (ascii "; a year of two digits is put into a century") []

-- whether a verdict says anything
unfoldable pub is_said : Verdict → Bool
is_said NoDate = false
is_said Full = false
is_said (NotStrict d) = true
is_said (ShortYear d) = true
is_said Unread = true
is_said (Refused e) = true

-- its sort
unfoldable pub sort : Verdict → List ℕ
sort NoDate = []
sort Full = []
sort (NotStrict d) = ascii "not strict"
sort (ShortYear d) = ascii "short year"
sort Unread = ascii "refused"
sort (Refused e) = ascii "refused"

-- its message; whether a year of two digits was windowed is told beside it
unfoldable pub message : Verdict → Bool → List ℕ
message NoDate windowed = []
message Full windowed = []
message (NotStrict d) windowed =
    ascii "not a full date; the typesetting run would print " ++ (written_text d ++ window_words windowed)
message (ShortYear d) windowed =
    ascii "a year of fewer than four digits is read as it stands; the typesetting run would print " ++ written_text d
message Unread windowed = ascii "a part is not read: a day needs its month, an end its year"
message (Refused e) windowed = refusal_words e

-- why a line of the file is no row; a place counts bytes from the row's start, from 0
unfoldable pub fault_words : Fault → List ℕ
fault_words (QuoteInside p) = placed (ascii "a quote in a cell that has none around it, at ") p
fault_words (TextBehind p) = placed (ascii "text behind a closing quote, at ") p
fault_words (LoneReturn p) = placed (ascii "a carriage return without a line feed, at ") p
fault_words (NeverClosed p) = placed (ascii "a quote that is never closed, at ") p
fault_words (TooLong p) = placed (ascii "longer than 65,536 bytes, its last cell from ") p ++ ascii " on"
fault_words TooMany = ascii "more than 256 cells"

-- why a row can not be used
unfoldable pub row_words : RowFault → List ℕ
row_words (Broken f) = fault_words f
row_words (Cells n m) = placed [] n ++ placed (ascii " cells where the header has ") m
row_words (BadUtf8 p) = placed (ascii "bytes that are not UTF-8, at ") p
row_words LongCell = ascii "a cell of more than 4,096 bytes"
