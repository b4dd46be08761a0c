-- One step over a block: what it takes of it, what it puts into the output, and what is kept for the next one.
-- `answer` is the answer to a line, and a line of more than `limit` bytes is too long: it is not kept.
use Rattle.std.specs.Prelude.{ℕ, ◌+◌, ◌-◌, ◌≤◌, ◌<◌, ◌≡◌, Bool, true, false, List, [], ◌++◌, ltb, length, take, drop}
use Rattle.chars.specs.Pick.{pick}
use Rattle.puts.specs.Answers.{Put}
use Rattle.lines.specs.declared.Taken.{Taken}
use Rattle.lines.specs.Lines.{lines_from, rest_from, answers_to, last_answer, line_length, NoFeed}

-- a way to answer lines
pub record Way (answer : List ℕ → List ℕ) (limit most : ℕ) (refused : List ℕ) : Type 0 where
  -- every line that is too long has the same answer
  pub too_long : (line : List ℕ) → limit < length line → answer line ≡ refused
  -- no answer is empty
  pub some : (line : List ℕ) → 0 < length (answer line)
  -- nor longer than the bound
  pub at_most : (line : List ℕ) → length (answer line) ≤ most

-- what stood before a block of the line that goes on in it: nothing, or so much that the line is too long whatever follows
pub data Before (limit : ℕ) : Bool → List ℕ → Type 0 where
  nothing : Before limit false []
  too_long : {k : List ℕ} → limit < length k → Before limit true k

-- the answer to the next line of a block, which is refused if it is too long already
unfoldable pub next_answer : (List ℕ → List ℕ) → List ℕ → Bool → List ℕ → List ℕ
next_answer answer refused true line = refused
next_answer answer refused false line = answer line

-- a text was put into a buffer behind a place, or there was no room for it and nothing was changed
pub data Replied (t out : List ℕ) (p : ℕ) : List ℕ → ℕ → Type 0 where
  was_put : {out' : List ℕ} {r : ℕ} → p + length t ≤ length out → Put t out p out' r → Replied t out p out' r
  no_room : length out < p + length t → Replied t out p out p

-- what is taken of a block of n bytes where no line feed follows at a place: all if that line is too long, else nothing more
unfoldable pub taken_at : ℕ → ℕ → ℕ → Bool → ℕ → Taken
taken_at limit n at long put =
    pick long (record { bytes = n; long = true; put = put; full = false })
    (pick (ltb limit (n - at)) (record { bytes = n; long = true; put = put; full = false }) (record { bytes = at; long = false; put = put; full = false }))

-- a step over the block b, whose first line is too long already or not; the output was out and is out'
pub record Stepped (answer : List ℕ → List ℕ) (limit : ℕ) (long : Bool) (b out : List ℕ) (r : Taken) (out' : List ℕ) : Type 0 where
  -- no more is taken than there is
  pub inside : r.bytes ≤ length b
  -- nor put than there is room for
  pub room : r.put ≤ length out
  -- put are the answers to the lines that were completed by what was taken, in order, and the rest of the output is as it was
  pub answered : (k : List ℕ) → Before limit long k → Put (answers_to answer (lines_from k (take r.bytes b))) out 0 out' r.put
  -- what was taken of an unfinished line need not be known
  pub kept : (k : List ℕ) → Before limit long k → Before limit r.long (rest_from k (take r.bytes b))
  -- where a line that is too long goes on, all was taken, or nothing if it stopped for room
  pub all_or_none : r.long ≡ true → r.bytes ≡ pick r.full 0 (length b)
  -- if it did not stop for room, no line feed is left, and no more bytes than a line may have
  pub over : r.full ≡ false → NoFeed (drop r.bytes b) × (length (drop r.bytes b) ≤ limit)
  -- if it did, a line is left whose answer is longer than the room
  pub short : r.full ≡ true
      → (line_length (drop r.bytes b) < length (drop r.bytes b))
      × ((k : List ℕ) → Before limit r.long k → length out < r.put + length (answer (k ++ take (line_length (drop r.bytes b)) (drop r.bytes b))))

-- the end of the stream: the last line, if there is one, was answered, or there was no room for the answer
pub record Finished (answer : List ℕ → List ℕ) (limit : ℕ) (long : Bool) (b out : List ℕ) (r : ℕ) (out' : List ℕ) : Type 0 where
  -- whatever stood before the block
  pub answered : (k : List ℕ) → Before limit long k → Replied (last_answer answer (k ++ b)) out 0 out' r
