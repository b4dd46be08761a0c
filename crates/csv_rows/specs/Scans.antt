-- What the reader's private functions say. No public contract rests on it.
use Rattle.std.specs.Prelude.{ℕ, ◌+◌, ◌*◌, ◌≤◌, ◌<◌, ◌≡◌, List, [], ◌∷◌, eqb, length, drop}
use Rattle.std.proofs.lemmas.List.Edits.{sets}
use Rattle.chars.specs.Pick.{pick}
use Rattle.csv_rows.specs.declared.Ending.{Ending}
use Rattle.csv_rows.specs.declared.Ending.TheVariants.{Through, Fails, Open}
use Rattle.csv_rows.specs.declared.Scan.{Scan}
use Rattle.csv_rows.specs.Reader.{is, Line}
use Rattle.csv_rows.specs.Answers.{place_of, listed}

-- a length that is counted from one place on says the same end from another
pub record SameEnd (f : List ℕ → ℕ) (s : List ℕ) (at to : ℕ) : Type 0 where
  -- the same end
  pub same : to + f (drop to s) ≡ at + f (drop at s)
  -- the other place is not before the first
  pub upward : at ≤ to
  -- and within the bytes
  pub within : to ≤ length s

-- a table after a cell was put
pub record Put (count start stop : ℕ) (before after : List ℕ) : Type 0 where
  -- there was room for it
  pub put : count < 256 → after ≡ sets before (2 * count) (start ∷ stop ∷ [])
  -- there was none
  pub full : 256 ≤ count → after ≡ before

-- the place that an ending names is within so many bytes
unfoldable pub end_place : Ending → ℕ
end_place (Through next) = next
end_place (Fails f) = place_of f
end_place (Open at) = at

-- what a scan answers of a line of at most so many bytes
pub record Scanned (l : Line) (r : Scan) (size : ℕ) (before after : List ℕ) : Type 0 where
  -- the number of cells
  pub count_is : r.count ≡ length l.cells
  -- how it ends
  pub ending_is : r.ending ≡ l.ending
  -- and where
  pub inside : end_place r.ending ≤ size
  -- the table
  pub table_is : after ≡ listed l before

-- how many bytes are one byte of a cell's text
unfoldable pub text_step : List ℕ → ℕ
text_step [] = 1
text_step (b ∷ s) = pick (eqb b 34) (pick (is 34 s) 2 1) 1
