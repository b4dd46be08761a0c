-- The text of a range.
use Prim.Native.Char.{code}
use Rattle.std.specs.Prelude.{ℕ, List, [], ◌∷◌, ◌++◌}
use Rattle.puts.specs.Numbers.{decimal}

-- two numbers with a hyphen, each without zeros in front
unfoldable pub written_range : ℕ → ℕ → List ℕ
written_range start end = decimal 1 start ++ ((code "-" ∷ []) ++ decimal 1 end)
