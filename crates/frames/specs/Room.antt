-- The buffers that the lists of a frame are taken apart in, and the frames that need none. No public contract rests on it.
use Rattle.std.specs.Prelude.{ℕ, ◌+◌, ◌*◌, ◌-◌, ◌≤◌, ◌≡◌, Bool, true, false, ◌&&◌, List, eqb, ltb, leb, length, take, drop, Result, Ok, Err}
use Rattle.chars.specs.Pick.{pick}
use Rattle.dates.specs.declared.Date.{Date}
use Rattle.refusals.specs.declared.Refusal.{Refusal}
use Rattle.codes.specs.declared.Words.{Words}
use Rattle.codes.specs.Back.{is_plain}
use Rattle.reading_laws.specs.Field.{parsed, parsed_strict, parsed_level_one}
use Rattle.chunks.specs.Lent.{lent, optional, three}
use Rattle.reading_laws.specs.Fields.{three_fields}
use Rattle.frames.specs.declared.Unpacked.{Unpacked}
use Rattle.frames.specs.declared.Operation.{Operation}
use Rattle.frames.specs.declared.Operation.TheVariants.{Ported, Strict, LevelOne, ThreeFields, Unknown}
use Rattle.frames.specs.Lists.{byte_at, list_table, list_text, has_list, optional_end}
use Rattle.frames.specs.Frame.{asked, three_fill, month_at, bad_frame}

-- a frame of the size that is admitted, and buffers with room for its lists
pub record Room (f text table : List ℕ) : Type 0 where
  -- its size
  pub small : length f ≤ 8192
  -- room for the bytes
  pub for_text : length f ≤ length text
  -- room for the tables
  pub for_table : length f ≤ 2 * length table

-- the operation that a frame's first byte asks for
abbrev pub operation_of : List ℕ → Operation
operation_of f = asked (byte_at f 0)

-- whether an operation reads one list
unfoldable pub reads_list : Operation → Bool
reads_list Ported = true
reads_list Strict = true
reads_list LevelOne = true
reads_list ThreeFields = false
reads_list Unknown = false

-- a list by the reader that an operation asks for; no other operation reads a list alone
unfoldable pub read_by : Operation → List ℕ → List ℕ → Result Date Refusal
read_by Ported b table = parsed b table
read_by Strict b table = parsed_strict b table
read_by LevelOne b table = parsed_level_one b table
read_by ThreeFields b table = bad_frame
read_by Unknown b table = bad_frame

-- the same of the only list of a frame
abbrev pub list_by : Operation → List ℕ → Result Date Refusal
list_by op f = read_by op (list_text f 1) (list_table f 1)

-- three lists that stand one behind the other in two buffers, by the places behind each
unfoldable pub read_lists : List ℕ → List ℕ → Bool → Bool → Unpacked → Unpacked → Unpacked → Result Date Refusal
read_lists text table has_month has_day y m d =
    three_fields
    (three
    (lent (take y.text text) (take y.table table))
    (optional has_month (take (m.text - y.text) (drop y.text text)) (take (m.table - y.table) (drop y.table table)))
    (optional has_day (take (d.text - m.text) (drop m.text text)) (take (d.table - m.table) (drop m.table table))))

-- whether a list that may be absent has no other chunk than one
unfoldable pub is_single : List ℕ → ℕ → Bool
is_single f at = pick (has_list f at) (eqb (byte_at f (at + 1)) 1) true

-- where the text of such a list begins; if the list is absent, the place behind it
unfoldable pub text_start : Bool → ℕ → ℕ
text_start has at = pick has (at + 12) (at + 1)

-- how many numbers its table has
unfoldable pub row_length : Bool → ℕ
row_length has = pick has 4 0

-- a frame of three fields with one chunk each, and the places of its month list and its day list
pub record Threefold (f : List ℕ) (ma da : ℕ) : Type 0 where
  -- its size
  pub small : length f ≤ 8192
  -- the lists fill it
  pub fills : three_fill f ≡ true
  -- the place of the month list
  pub month_there : ma ≡ month_at f
  -- the place of the day list
  pub day_there : da ≡ optional_end f ma
  -- one chunk for the year
  pub one_year : byte_at f 1 ≡ 1
  -- at most one for the month
  pub one_month : is_single f ma ≡ true
  -- and for the day
  pub one_day : is_single f da ≡ true

-- whether an operation reads one list as a date field, and answers a usual text by that text
unfoldable pub reads_usual : Operation → Bool
reads_usual Ported = true
reads_usual Strict = true
reads_usual LevelOne = false
reads_usual ThreeFields = false
reads_usual Unknown = false

-- a frame that asks for such a reading of one Normal chunk, and is filled by it
unfoldable pub is_usual : List ℕ → Bool
is_usual f =
    leb 12 (length f)
    && (eqb (byte_at f 1) 1 && (eqb (byte_at f 2) 0 && (eqb (byte_at f 3) (length f - 12) && reads_usual (operation_of f))))

-- whether an operation answers by level one: with the seasons, and its own writer's text
unfoldable pub by_level : Operation → Bool
by_level Ported = false
by_level Strict = false
by_level LevelOne = true
by_level ThreeFields = false
by_level Unknown = false

-- whether words are answered with the text that is put from them: they are plain, and say no season
unfoldable pub says_plain : Words → Bool
says_plain w =
    ltb w.first_time 72057594037927936
    && (ltb w.second_time 72057594037927936 && is_plain w.first w.second w.last)

-- how many bytes an answer has; 0 where there is no room for it
unfoldable pub length_in : Result ℕ Refusal → ℕ
length_in (Ok n) = n
length_in (Err e) = 0
