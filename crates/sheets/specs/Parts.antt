-- A file that is cut behind rows, each part with the header again: which rows it is cut behind, and what its parts count together.
use Rattle.std.specs.Prelude.{◌≡◌, false, List, [], ◌∷◌, ◌++◌, ℕ, ◌+◌, ◌<◌, length}
use Rattle.csv_rows.specs.declared.Separator.{Separator}
use Rattle.csv_rows.specs.declared.Fault.{Fault}
use Rattle.csv_rows.specs.declared.RowRead.TheVariants.{Faulty}
use Rattle.csv_rows.specs.Reader.{byte_of}
use Rattle.csv_rows.specs.Answers.{answer}
use Rattle.csv_rows.specs.Grammar.{Limited}
use Rattle.findings.specs.Words.{capped}
use Rattle.sheets.specs.declared.Tally.{Tally}
use Rattle.sheets.specs.Ends.{EndsWith}

-- rows one behind the other, and b behind them: each is a row by the grammar, or a bad row that is known by its own bytes
pub data RowsOf (k : Separator) (b : List ℕ) : List ℕ → Type 0 where
  -- none
  no_row : RowsOf k b []
  -- a row, of at most 65,536 bytes and 256 cells
  a_row : (r a : List ℕ) {count : ℕ} → Limited (byte_of k) (r ++ (a ++ b)) (length r) count → RowsOf k b a → RowsOf k b (r ++ a)
  -- a bad row
  a_bad : (r a : List ℕ) {f : Fault} → answer (byte_of k) false r ≡ Faulty (length r) f → RowsOf k b a → RowsOf k b (r ++ a)

-- each of the five numbers of the whole is the sum of those of its parts, up to the largest number
pub record Sums (t t' whole : Tally) : Type 0 where
  -- of rows
  pub sum_rows : whole.rows ≡ capped (t.rows + t'.rows)
  -- of strict dates
  pub sum_strict : whole.strict ≡ capped (t.strict + t'.strict)
  -- of those that are read otherwise
  pub sum_otherwise : whole.otherwise ≡ capped (t.otherwise + t'.otherwise)
  -- of those that are refused
  pub sum_refused : whole.refused ≡ capped (t.refused + t'.refused)
  -- of bad rows
  pub sum_bad : whole.bad ≡ capped (t.bad + t'.bad)

-- the numbers at the end of one report are the sums of those at the ends of two
pub record Together (s s' whole : List ℕ) : Type 0 where
  -- those of the first
  pub numbers : Tally
  -- of the second
  pub numbers' : Tally
  -- of the whole
  pub all_numbers : Tally
  -- the first report ends so
  pub ends_so : EndsWith s numbers
  -- the second, too
  pub ends_so' : EndsWith s' numbers'
  -- and that on the whole
  pub all_ends_so : EndsWith whole all_numbers
  -- they add up
  pub sums : Sums numbers numbers' all_numbers

-- parts, one behind the other
abbrev pub whole_of : List (List ℕ) → List ℕ
whole_of [] = []
whole_of (a ∷ rest) = a ++ whole_of rest

-- the parts of a file behind its header: each but the last is rows, and something is behind it
pub data PartsOf (k : Separator) : List (List ℕ) → Type 0 where
  -- the last, whatever it holds
  last_part : (a : List ℕ) → PartsOf k (a ∷ [])
  -- one of rows, and those behind it
  rows_part : {a : List ℕ} {rest : List (List ℕ)} → RowsOf k (whole_of rest) a → 0 < length (whole_of rest) → PartsOf k rest → PartsOf k (a ∷ rest)

-- the reports on parts, each with this header, end with these numbers
pub data EachEndsWith (h : List ℕ) : List (List ℕ) → List Tally → Type 0 where
  -- no part
  no_part : EachEndsWith h [] []
  -- one, and others
  a_part : {a : List ℕ} {t : Tally} {rest : List (List ℕ)} {ts : List Tally} → EndsWith (h ++ a) t → EachEndsWith h rest ts → EachEndsWith h (a ∷ rest) (t ∷ ts)

-- one of the numbers, added up over all
abbrev pub added_up : (Tally → ℕ) → List Tally → ℕ
added_up number [] = 0
added_up number (t ∷ ts) = number t + added_up number ts

-- each of the five numbers of the whole is the sum of those of all parts, up to the largest number
pub record AllSums (ts : List Tally) (whole : Tally) : Type 0 where
  -- of rows
  pub total_rows : whole.rows ≡ capped (added_up (λ t. t.rows) ts)
  -- of strict dates
  pub total_strict : whole.strict ≡ capped (added_up (λ t. t.strict) ts)
  -- of those that are read otherwise
  pub total_otherwise : whole.otherwise ≡ capped (added_up (λ t. t.otherwise) ts)
  -- of those that are refused
  pub total_refused : whole.refused ≡ capped (added_up (λ t. t.refused) ts)
  -- of bad rows
  pub total_bad : whole.bad ≡ capped (added_up (λ t. t.bad) ts)

-- the numbers at the end of the report on a file are the sums of those at the ends of the reports on its parts
pub record AllTogether (h : List ℕ) (parts : List (List ℕ)) : Type 0 where
  -- those of the parts
  pub numbers : List Tally
  -- of the whole
  pub all_numbers : Tally
  -- the reports on the parts end so
  pub end_so : EachEndsWith h parts numbers
  -- and that on the whole
  pub all_ends_so : EndsWith (h ++ whole_of parts) all_numbers
  -- they add up
  pub sums : AllSums numbers all_numbers
