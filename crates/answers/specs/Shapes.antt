-- The line of a Date, by how many Datetimes it has. No public contract rests on it.
use Rattle.std.specs.Prelude.{ℕ, Bool, List, ◌++◌}
use Rattle.dates.specs.declared.Datetime.{Datetime}
use Rattle.answers.specs.Answer.{end_bytes, bytes_with, line_of}

-- the line of a shape and marks by their numbers, with one Datetime
abbrev pub one_line : Bool → ℕ → ℕ → Datetime → List ℕ → List ℕ
one_line level n m d text = line_of (bytes_with n m (end_bytes level d) text)

-- the same with both ends of a range
abbrev pub two_line : Bool → ℕ → Datetime → Datetime → List ℕ → List ℕ
two_line level m a b text = line_of (bytes_with 3 m (end_bytes level a ++ end_bytes level b) text)
