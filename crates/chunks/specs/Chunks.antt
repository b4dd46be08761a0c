-- Chunk lists: the lent table has four numbers a chunk, and the lent bytes are the chunks' texts one behind the other.
use Rattle.std.specs.Prelude.{ℕ, ◌+◌, ◌%◌, Bool, true, ◌&&◌, List, [], ◌∷◌, leb, eqb, length}
use Rattle.refusals.specs.declared.FileSpan.{FileSpan}
use Rattle.refusals.specs.Refusal.{file_span}

-- a part of a field with one kind of markup, as four numbers of the lent table say it
pub record Chunk : Type 0 where
  -- 0 Normal, 1 Verbatim, 2 Math
  pub kind : ℕ
  -- how many of the lent bytes are its text
  pub len : ℕ
  -- where its span in the file starts
  pub start : ℕ
  -- where its span in the file ends
  pub end : ℕ

-- the chunks of a table, four numbers each
unfoldable pub chunks_of : List ℕ → List Chunk
chunks_of [] = []
chunks_of (kind ∷ []) = []
chunks_of (kind ∷ len ∷ []) = []
chunks_of (kind ∷ len ∷ start ∷ []) = []
chunks_of (kind ∷ len ∷ start ∷ end ∷ rest) = record { kind = kind; len = len; start = start; end = end } ∷ chunks_of rest

-- whether each kind is one of the three
unfoldable pub kinds_known : List Chunk → Bool
kinds_known [] = true
kinds_known (c ∷ cs) = leb c.kind 2 && kinds_known cs

-- whether no chunk is Math: each is Normal or Verbatim
unfoldable pub no_math : List Chunk → Bool
no_math [] = true
no_math (c ∷ cs) = leb c.kind 1 && no_math cs

-- the sum of the lengths: a sum of numbers, which does not wrap
unfoldable pub lengths : List Chunk → ℕ
lengths [] = 0
lengths (c ∷ cs) = c.len + lengths cs

-- whether the table fits the bytes: four numbers a chunk, known kinds, and lengths that sum to the number of bytes
unfoldable pub fits : List ℕ → List ℕ → Bool
fits b table = eqb (length table % 4) 0 && (kinds_known (chunks_of table) && eqb (lengths (chunks_of table)) (length b))

-- whether there are at most 64 chunks and at most 4,096 bytes
unfoldable pub is_short : List ℕ → List ℕ → Bool
is_short b table = leb (length (chunks_of table)) 64 && leb (length b) 4096

-- the end of the last chunk's span
unfoldable pub last_end : ℕ → List Chunk → ℕ
last_end e [] = e
last_end e (c ∷ cs) = last_end c.end cs

-- the span of a list: from the first chunk's start to the last one's end; of the empty list 0, 0
unfoldable pub span_of : List Chunk → FileSpan
span_of [] = file_span 0 0
span_of (c ∷ cs) = file_span c.start (last_end c.end cs)

-- the table of one Normal chunk with all of the bytes, from any place to any place of a file
abbrev pub one_chunk : List ℕ → ℕ → ℕ → List ℕ
one_chunk b start end = 0 ∷ length b ∷ start ∷ end ∷ []
