-- The ends of a point or range: what is said of each, and how their texts are joined.
use Rattle.std.specs.Prelude.{ℕ, Bool, ◌||◌, List, ◌++◌, ◌⊎◌}
use Rattle.chars.specs.Ascii.{ascii}
use Rattle.dates.specs.declared.Datetime.{Datetime}
use Rattle.dates.specs.declared.DateValue.{DateValue}
use Rattle.dates.specs.declared.DateValue.TheVariants.{At, After, Before, Between}

-- whether one of the ends passes a test
abbrev pub any_end : (Datetime → Bool) → DateValue → Bool
any_end test (At d) = test d
any_end test (After d) = test d
any_end test (Before d) = test d
any_end test (Between a b) = test a || test b

-- what holds of every end
abbrev pub EachEnd : (Datetime → Type 0) → DateValue → Type 0
EachEnd P (At d) = P d
EachEnd P (After d) = P d
EachEnd P (Before d) = P d
EachEnd P (Between a b) = P a × P b

-- what holds of one of the ends
abbrev pub SomeEnd : (Datetime → Type 0) → DateValue → Type 0
SomeEnd P (At d) = P d
SomeEnd P (After d) = P d
SomeEnd P (Before d) = P d
SomeEnd P (Between a b) = P a ⊎ P b

-- the text of a point, or of a range whose open side is two dots, by the text of an end
abbrev pub joined : (Datetime → List ℕ) → DateValue → List ℕ
joined text (At d) = text d
joined text (After d) = text d ++ ascii "/.."
joined text (Before d) = ascii "../" ++ text d
joined text (Between a b) = text a ++ ascii "/" ++ text b
