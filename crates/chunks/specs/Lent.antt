-- Chunk lists as a caller lends them: one, one that may be absent, and three as the fields year, month and day.
use Rattle.std.specs.Prelude.{ℕ, Bool, false, true, List, [], Result, Option, None, Some}
use Rattle.refusals.specs.declared.FileSpan.{FileSpan}
use Rattle.refusals.specs.declared.Refusal.{Refusal}
use Rattle.chunks.specs.declared.ChunksRef.{ChunksRef}
use Rattle.chunks.specs.Chunks.{chunks_of, span_of}
use Rattle.chunks.specs.Check.{checked}
use Rattle.chunks.specs.Format.{formatted}

-- a chunk list: its bytes, and the table of its chunks
pub record Lent : Type 0 where
  -- the text, chunk behind chunk
  pub bytes : List ℕ
  -- four numbers a chunk
  pub table : List ℕ

-- a list that may be absent; what is lent for an absent one is not looked at
pub record Optional : Type 0 where
  -- whether it is there
  pub present : Bool
  -- what is lent for it
  pub list : Lent

-- the fields year, month and day
pub record Three : Type 0 where
  -- the year is always there
  pub year : Lent
  -- the month may be absent
  pub month : Optional
  -- and so may the day
  pub day : Optional

-- a list of these bytes and this table
abbrev pub lent : List ℕ → List ℕ → Lent
lent b t = record { bytes = b; table = t }

-- the same, if it is present
abbrev pub optional : Bool → List ℕ → List ℕ → Optional
optional has b t = record { present = has; list = lent b t }

-- no list
abbrev pub absent : Optional
absent = optional false [] []

-- the list that is lent
abbrev pub lent_of : ChunksRef → Lent
lent_of l = lent l.bytes.now l.table.now

-- the same, if it is present
abbrev pub optional_of : Option ChunksRef → Optional
optional_of None = absent
optional_of (Some l) = record { present = true; list = lent_of l }

-- three fields of these lists
abbrev pub three : Lent → Optional → Optional → Three
three y m d = record { year = y; month = m; day = d }

-- what the checks of a list say
abbrev pub check_of : Lent → Result (Unit {0}) Refusal
check_of l = checked l.bytes l.table

-- the formatted text of a list
abbrev pub text_of : Lent → List ℕ
text_of l = formatted l.bytes l.table

-- the span of a list
abbrev pub place_of : Lent → FileSpan
place_of l = span_of (chunks_of l.table)
