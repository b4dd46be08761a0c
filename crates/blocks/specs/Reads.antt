-- What a read into a block may answer.
use Rattle.std.specs.Prelude.{ℕ, ◌≤◌, Option, Some, None}

-- of so many bytes that were lent, no more are read, or it failed
abbrev pub MayRead : ℕ → Option ℕ → Type 0
MayRead lent (Some n) = n ≤ lent
MayRead lent None = Unit {0}
