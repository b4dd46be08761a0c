-- The lines of a report by what they are counted as, and that the numbers at its end are theirs.
use Rattle.std.specs.Prelude.{◌≡◌, List, ℕ, ◌+◌}
use Rattle.chars.specs.Ascii.{ascii}
use Rattle.findings.specs.Words.{capped}
use Rattle.findings.specs.Sorts.{lines_of_sort}
use Rattle.sheets.specs.declared.Tally.{Tally}

-- the lines of dates that are read otherwise, which are of two sorts
abbrev pub otherwise_lines : List ℕ → ℕ
otherwise_lines text = lines_of_sort (ascii "not strict") text + lines_of_sort (ascii "short year") text

-- those of dates that are refused
abbrev pub refused_lines : List ℕ → ℕ
refused_lines text = lines_of_sort (ascii "refused") text

-- those of bad rows
abbrev pub bad_lines : List ℕ → ℕ
bad_lines text = lines_of_sort (ascii "bad row") text

-- these numbers are those of a text's lines, up to the largest number
pub record CountsLines (text : List ℕ) (t : Tally) : Type 0 where
  -- of dates that are read otherwise
  pub of_otherwise : t.otherwise ≡ capped (otherwise_lines text)
  -- of those that are refused
  pub of_refused : t.refused ≡ capped (refused_lines text)
  -- of bad rows
  pub of_bad : t.bad ≡ capped (bad_lines text)
