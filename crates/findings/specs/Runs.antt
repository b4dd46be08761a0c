-- A run of a writer over a buffer that may be too short: it counts all the same, so that a first run measures and a second one stores.
-- No public contract rests on it.
use Rattle.std.specs.Prelude.{ℕ, ◌+◌, ◌≤◌, ◌<◌, ◌≡◌, List, [], ◌∷◌, ◌++◌, length}
use Rattle.std.proofs.lemmas.List.Edits.{sets}
use Rattle.refusals.specs.Offset.{top}
use Rattle.puts.specs.Numbers.{decimal}
use Rattle.findings.specs.Escapes.{escaped}

-- the place behind so many bytes; where that is no number of 64 bits, one that no buffer reaches
pub record Moved (n at next : ℕ) : Type 0 where
  -- it is a number of 64 bits
  pub within : at + n ≤ top → next ≡ at + n
  -- it is above that
  pub beyond : top < at + n → top ≤ next

-- a text was gone through from a place of a buffer on: it is counted, and stored if there is room for all of it
pub record Ran (text before : List ℕ) (at : ℕ) (after : List ℕ) (next : ℕ) : Type 0 where
  -- the next place is behind the text
  pub moved : Moved (length text) at next
  -- with room the buffer has the text at the place, and what it had before elsewhere
  pub bytes : length before ≤ top → at + length text ≤ length before → after ≡ sets before at text
  -- the buffer is as long as before
  pub kept : length after ≡ length before

-- the fields of a finding before its column, a tab behind each
abbrev pub head : ℕ → List ℕ → List ℕ
head line key = decimal 1 line ++ (9 ∷ (escaped key ++ (9 ∷ [])))

-- those behind its text, a tab before each
abbrev pub tail : List ℕ → List ℕ → List ℕ
tail kind words = 9 ∷ (kind ++ (9 ∷ (words ++ (10 ∷ []))))
