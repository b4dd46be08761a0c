-- The answer to a frame, by the words of what was read.
use Rattle.std.specs.Prelude.{ℕ, ◌+◌, ◌*◌, ◌/◌, ◌%◌, List, [], ◌∷◌, ◌++◌, eqb}
use Rattle.chars.specs.Pick.{pick}
use Rattle.codes.specs.declared.Words.{Words}
use Rattle.answers.specs.Answer.{word_bytes, refusal_bytes, bytes_with, line_of}

-- a month or a day, by the number that says whether it is there; ff if it is not
unfoldable pub part_byte : ℕ → ℕ → ℕ
part_byte has n = pick (eqb has 0) 255 n

-- the month and the day of a Datetime's first word
abbrev pub part_bytes : ℕ → List ℕ
part_bytes w =
    part_byte (w / 4294967296 % 256) (w / 1099511627776 % 256) ∷ part_byte (w / 281474976710656 % 256) (w / 72057594037927936 % 256) ∷ []

-- the time and its offset, of the second: all of its bytes but the season
abbrev pub clock_bytes : ℕ → List ℕ
clock_bytes t =
    (t % 256 ∷ t / 256 % 256 ∷ t / 65536 % 256 ∷ t / 16777216 % 256 ∷ [])
    ++ (t / 4294967296 % 256 ∷ t / 1099511627776 % 256 ∷ t / 281474976710656 % 256 ∷ [])

-- a Datetime: the year, the month and the day, the time
unfoldable pub coded_end : ℕ → ℕ → List ℕ
coded_end w t = word_bytes w ++ (part_bytes w ++ clock_bytes t)

-- the shape by its number
abbrev pub coded_shape : ℕ → ℕ
coded_shape last = last % 4

-- the marks: bit 0 uncertain, bit 1 approximate
abbrev pub coded_marks : ℕ → ℕ
coded_marks last = last / 256 % 2 + 2 * (last / 65536 % 2)

-- the line of a Date with one Datetime, whose written text is given
abbrev pub one_coded : Words → List ℕ → List ℕ
one_coded w text = line_of (bytes_with (coded_shape w.last) (coded_marks w.last) (coded_end w.first w.first_time) text)

-- the same with both ends of a range
abbrev pub two_coded : Words → List ℕ → List ℕ
two_coded w text =
    line_of
    (bytes_with (coded_shape w.last) (coded_marks w.last)
    (coded_end w.first w.first_time ++ coded_end w.second w.second_time)
    text)

-- the line of a Date, whose written text is given
unfoldable pub words_line : Words → List ℕ → List ℕ
words_line w text = pick (eqb (coded_shape w.last) 3) (two_coded w text) (one_coded w text)

-- the line of a refusal
abbrev pub refused_words : Words → List ℕ
refused_words w = line_of (refusal_bytes (w.last / 4294967296 % 256) w.start w.end)
