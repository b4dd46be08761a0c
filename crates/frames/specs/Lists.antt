-- How chunk lists lie in a frame. A byte behind the frame's end counts as 0: a frame that ends too early is then shorter than its lists.
use Rattle.std.specs.Prelude.{ℕ, zero, suc, ◌+◌, ◌*◌, Bool, List, [], ◌∷◌, ◌++◌, eqb, leb, get_or, take, drop}
use Rattle.chars.specs.Pick.{pick}

-- the byte at a place
abbrev pub byte_at : List ℕ → ℕ → ℕ
byte_at f at = get_or f at 0

-- a number of four bytes, the high one first
unfoldable pub word_at : List ℕ → ℕ → ℕ
word_at f at = ((byte_at f at * 256 + byte_at f (at + 1)) * 256 + byte_at f (at + 2)) * 256 + byte_at f (at + 3)

-- the place behind a chunk: kind and length, a byte each, start and end, four each, and the text
abbrev pub behind : List ℕ → ℕ → ℕ
behind f at = at + 10 + byte_at f (at + 1)

-- the place behind so many chunks
unfoldable pub end_of : List ℕ → ℕ → ℕ → ℕ
end_of f at zero = at
end_of f at (suc n) = end_of f (behind f at) n

-- a chunk's row of the table: kind, length, start, end
unfoldable pub row_at : List ℕ → ℕ → List ℕ
row_at f at = byte_at f at ∷ byte_at f (at + 1) ∷ word_at f (at + 2) ∷ word_at f (at + 6) ∷ []

-- the table of so many chunks
unfoldable pub table_of : List ℕ → ℕ → ℕ → List ℕ
table_of f at zero = []
table_of f at (suc n) = row_at f at ++ table_of f (behind f at) n

-- so many bytes at a place
abbrev pub part_at : List ℕ → ℕ → ℕ → List ℕ
part_at f from n = take n (drop from f)

-- the text of a chunk
abbrev pub text_at : List ℕ → ℕ → List ℕ
text_at f at = part_at f (at + 10) (byte_at f (at + 1))

-- the texts of so many chunks, one behind the other
unfoldable pub text_of : List ℕ → ℕ → ℕ → List ℕ
text_of f at zero = []
text_of f at (suc n) = text_at f at ++ text_of f (behind f at) n

-- a list: the count of its chunks, and they; the place behind it
abbrev pub list_end : List ℕ → ℕ → ℕ
list_end f at = end_of f (at + 1) (byte_at f at)

-- its table
abbrev pub list_table : List ℕ → ℕ → List ℕ
list_table f at = table_of f (at + 1) (byte_at f at)

-- its bytes
abbrev pub list_text : List ℕ → ℕ → List ℕ
list_text f at = text_of f (at + 1) (byte_at f at)

-- a list that may be absent: 00, or 01 and the list. Whether the byte is one of the two
unfoldable pub is_flag : List ℕ → ℕ → Bool
is_flag f at = leb (byte_at f at) 1

-- whether the list is present
unfoldable pub has_list : List ℕ → ℕ → Bool
has_list f at = eqb (byte_at f at) 1

-- the place behind it
unfoldable pub optional_end : List ℕ → ℕ → ℕ
optional_end f at = pick (has_list f at) (list_end f (at + 1)) (at + 1)

-- its table, if it is present
unfoldable pub optional_table : List ℕ → ℕ → List ℕ
optional_table f at = pick (has_list f at) (list_table f (at + 1)) []

-- its bytes, if it is present
unfoldable pub optional_text : List ℕ → ℕ → List ℕ
optional_text f at = pick (has_list f at) (list_text f (at + 1)) []
