-- A part of a block that is moved down to its front.
use Rattle.std.specs.Prelude.{ℕ, ◌-◌, List, ◌++◌, leb, length, take, drop}
use Rattle.chars.specs.Pick.{pick}

-- the bytes from a place to another stand at the front, and those behind stay; places that are not in the block in this order move nothing
unfoldable pub moved_down : ℕ → ℕ → List ℕ → List ℕ
moved_down from to s = pick (leb from to) (pick (leb to (length s)) (take (to - from) (drop from s) ++ drop (to - from) s) s) s
