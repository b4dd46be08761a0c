-- What the report on a file ends with: its numbers, and that the file is safe to sign.
use Rattle.std.specs.Prelude.{◌≡◌, List, ◌++◌, ℕ}
use Rattle.chars.specs.Ascii.{ascii}
use Rattle.sheets.specs.declared.Tally.{Tally}
use Rattle.sheets.specs.Steps.{last_lines}
use Rattle.sheets.specs.Reports.{report}

-- the report on a file ends with these five numbers
pub record EndsWith (s : List ℕ) (t : Tally) : Type 0 where
  -- the lines before
  pub lines : List ℕ
  -- and the two behind them
  pub is : report s ≡ lines ++ last_lines t

-- the report on a file ends with `safe to sign`
pub record SaysSafe (s : List ℕ) : Type 0 where
  -- what stands before
  pub front : List ℕ
  -- and the line behind it
  pub is : report s ≡ front ++ ascii "safe to sign\n"
