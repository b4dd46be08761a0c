-- The text of words, if they are plain: if the numbers of their Datetimes have the usual count of digits. A season is not looked at here.
use Rattle.std.specs.Prelude.{ℕ, ◌+◌, ◌-◌, ◌/◌, ◌%◌, Bool, not, ◌&&◌, ◌||◌, List, [], ◌++◌, eqb, ltb, leb, length, drop}
use Rattle.chars.specs.Ascii.{ascii}
use Rattle.chars.specs.Pick.{pick}
use Rattle.puts.specs.Marks.{mark_text}
use Rattle.puts.specs.Numbers.{digits}

-- the year of a word, in two's complement of 32 bits
abbrev pub year_in : ℕ → ℕ
year_in w = w % 4294967296

-- whether there is a month, as a number
abbrev pub has_month_in : ℕ → ℕ
has_month_in w = w / 4294967296 % 256

-- the stored month
abbrev pub month_in : ℕ → ℕ
month_in w = w / 1099511627776 % 256

-- whether there is a day, as a number
abbrev pub has_day_in : ℕ → ℕ
has_day_in w = w / 281474976710656 % 256

-- the stored day
abbrev pub day_in : ℕ → ℕ
day_in w = w / 72057594037927936 % 256

-- a number that is set: 0 is no, every other yes
abbrev pub is_set : ℕ → Bool
is_set n = not (eqb n 0)

-- a year from -9999 to 9999
unfoldable pub is_plain_year : ℕ → Bool
is_plain_year n = ltb n 10000 || leb (4294967296 - 9999) n

-- such a year, and a month and a day of which each is written with two digits
unfoldable pub is_plain_word : ℕ → Bool
is_plain_word w = is_plain_year (year_in w) && (ltb (month_in w) 99 && ltb (day_in w) 99)

-- the year's digits, behind a minus if it is negative
unfoldable pub year_digits : ℕ → List ℕ
year_digits n = pick (ltb n 10000) (digits 4 n) (ascii "-" ++ digits 4 (4294967296 - n))

-- a stored month or day, as it is written behind a hyphen
unfoldable pub part_digits : ℕ → List ℕ
part_digits n = ascii "-" ++ digits 2 (n + 1)

-- the day, if there is one
unfoldable pub day_digits : ℕ → List ℕ
day_digits w = pick (is_set (has_day_in w)) (part_digits (day_in w)) []

-- the month, if there is one, and the day beside it
unfoldable pub month_digits : ℕ → List ℕ
month_digits w = pick (is_set (has_month_in w)) (part_digits (month_in w) ++ day_digits w) []

-- the text of a word
unfoldable pub point_text : ℕ → List ℕ
point_text w = year_digits (year_in w) ++ month_digits w

-- the text of a point or range of a shape: 0 At, 1 After, 2 Before, every other number Between
unfoldable pub shaped_text : ℕ → ℕ → ℕ → List ℕ
shaped_text shape a b =
    pick (eqb shape 0) (point_text a)
    (pick (eqb shape 1) (point_text a ++ ascii "/..")
    (pick (eqb shape 2) (ascii "../" ++ point_text a)
    (point_text a ++ ascii "/" ++ point_text b)))

-- the same with its mark: the last word has the shape, whether it is uncertain, and whether it is approximate
unfoldable pub words_text : ℕ → ℕ → ℕ → List ℕ
words_text a b last = shaped_text (last % 256) a b ++ mark_text (is_set (last / 256 % 256)) (is_set (last / 65536 % 256))

-- whether that is what is written of them: only Between looks at the second word
unfoldable pub is_plain : ℕ → ℕ → ℕ → Bool
is_plain a b last = is_plain_word a && (ltb (last % 256) 3 || is_plain_word b)

-- how long the text is; 0 if the words are not plain
unfoldable pub plain_length : ℕ → ℕ → ℕ → ℕ
plain_length a b last = pick (is_plain a b last) (length (words_text a b last)) 0

-- whether there is room for the text of plain words
unfoldable pub has_room : ℕ → ℕ → ℕ → ℕ → Bool
has_room a b last room = is_plain a b last && leb (length (words_text a b last)) room

-- the buffer afterwards: the text at its front and what was behind it, or all as it was
unfoldable pub words_put : ℕ → ℕ → ℕ → List ℕ → List ℕ
words_put a b last out = pick (has_room a b last (length out)) (words_text a b last ++ drop (length (words_text a b last)) out) out
