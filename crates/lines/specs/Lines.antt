-- A stream of bytes cut into lines at its line feeds, and the answers to it: one for each complete line, in order, and one for a last line that has no line feed.
-- Which answer a line has is left open: `answer` is any function from a line to its answer.
use Rattle.std.specs.Prelude.{ℕ, suc, ◌≡◌, List, [], ◌∷◌, ◌++◌, eqb, length}
use Rattle.chars.specs.Pick.{pick}

-- the complete lines of a stream, without their line feeds; of the first of them some bytes may have come before the stream
unfoldable pub lines_from : List ℕ → List ℕ → List (List ℕ)
lines_from kept [] = []
lines_from kept (b ∷ s) = pick (eqb b 10) (kept ∷ lines_from [] s) (lines_from (kept ++ (b ∷ [])) s)

-- what stands behind the last line feed
unfoldable pub rest_from : List ℕ → List ℕ → List ℕ
rest_from kept [] = kept
rest_from kept (b ∷ s) = pick (eqb b 10) (rest_from [] s) (rest_from (kept ++ (b ∷ [])) s)

-- the answers to lines, in order
unfoldable pub answers_to : (List ℕ → List ℕ) → List (List ℕ) → List ℕ
answers_to answer [] = []
answers_to answer (l ∷ ls) = answer l ++ answers_to answer ls

-- the answer to what stands behind the last line feed: none if nothing does
unfoldable pub last_answer : (List ℕ → List ℕ) → List ℕ → List ℕ
last_answer answer [] = []
last_answer answer (b ∷ l) = answer (b ∷ l)

-- the answers to a stream
unfoldable pub answers_of : (List ℕ → List ℕ) → List ℕ → List ℕ
answers_of answer s = answers_to answer (lines_from [] s) ++ last_answer answer (rest_from [] s)

-- how many bytes stand before the next line feed; all, if there is none
unfoldable pub line_length : List ℕ → ℕ
line_length [] = 0
line_length (b ∷ s) = pick (eqb b 10) 0 (suc (line_length s))

-- there is no line feed
abbrev pub NoFeed : List ℕ → Type 0
NoFeed s = line_length s ≡ length s

-- no byte is a line feed
abbrev pub FeedFree : List ℕ → Type 0
FeedFree [] = Unit {0}
FeedFree (b ∷ l) = (b ≡ 10 → ⊥) × FeedFree l

-- no byte of any line is one
abbrev pub AllFree : List (List ℕ) → Type 0
AllFree [] = Unit {0}
AllFree (l ∷ ls) = FeedFree l × AllFree ls

-- the lines, each with its line feed, and what stands behind the last
abbrev pub with_feeds : List (List ℕ) → List ℕ → List ℕ
with_feeds [] rest = rest
with_feeds (l ∷ ls) rest = l ++ (10 ∷ with_feeds ls rest)
