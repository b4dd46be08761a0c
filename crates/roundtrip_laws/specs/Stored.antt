-- What the writer stored for a Date, and that it is read back.
use Rattle.std.specs.Prelude.{ℕ, ◌≡◌, Bool, true, false, List, ◌++◌, length, take, Ok}
use Rattle.dates.specs.declared.Datetime.{Datetime}
use Rattle.dates.specs.declared.DateValue.{DateValue}
use Rattle.dates.specs.declared.DateValue.TheVariants.{At, After, Before, Between}
use Rattle.dates.specs.declared.Date.{Date}
use Rattle.dates.specs.Value.{from_datetime}
use Rattle.chunks.specs.Chunks.{one_chunk}
use Rattle.reading_laws.specs.Field.{parsed, parsed_strict}
use Rattle.writer.specs.Texts.{date_text}
use Rattle.writer.specs.Fields.{fields_text}
use Rattle.writer.specs.Answers.{date_measured, date_answer, date_afterwards}
use Rattle.roundtrip_laws.specs.Fields.{lines_of, read_back}

-- both readers read bytes, as one Normal chunk anywhere in a file, as a Date
pub record TextBack (d : Date) (s : List ℕ) : Type 0 where
  -- the ported reader
  pub ported : (start end : ℕ) → parsed s (one_chunk s start end) ≡ Ok d
  -- the strict one
  pub strictly : (start end : ℕ) → parsed_strict s (one_chunk s start end) ≡ Ok d

-- bytes are the lines of one end, and the values of those lines, read as three fields anywhere in a file, give that end
pub record EndBack (end : Bool) (a : Datetime) (s : List ℕ) : Type 0 where
  -- the lines
  pub lines : s ≡ lines_of end a
  -- their values
  pub values : (ys ye ms me ds de : ℕ) → read_back a ys ye ms me ds de ≡ Ok (from_datetime a)

-- bytes are the lines of a Date's first or only end, and those of its second end behind them; each is read back
abbrev pub FieldsBack : DateValue → List ℕ → Type 0
FieldsBack (At a) s = EndBack false a s
FieldsBack (After a) s = EndBack false a s
FieldsBack (Before a) s = EndBack false a s
FieldsBack (Between a b) s = (t : List ℕ) × (u : List ℕ) × (s ≡ t ++ u) × EndBack false a t × EndBack true b u

-- asked for a text of a Date with a lent buffer, the writer measures it, says how many bytes it stored, and the buffer's front is as is said
pub record StoredAs (d : Date) (text out : List ℕ) (Back : List ℕ → Type 0) : Type 0 where
  -- the measure is the text's length
  pub measures : date_measured d text ≡ Ok (length text)
  -- it is the answer too
  pub answers : date_answer d text (length out) ≡ Ok (length text)
  -- so many bytes of the buffer
  pub back : Back (take (length text) (date_afterwards d text out))

-- the text is stored, and both readers read it as the Date
abbrev pub TextStored : Date → List ℕ → Type 0
TextStored d out = StoredAs d (date_text d) out (TextBack d)

-- the fields are stored, and read back
abbrev pub FieldsStored : Date → List ℕ → Type 0
FieldsStored d out = StoredAs d (fields_text d) out (FieldsBack d.value)
