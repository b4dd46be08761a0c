-- Worked examples, the answers written out. Assumes nothing.
use mathlib.Core.Path.{◌≡◌, refl}
use mathlib.Core.List.{List, [], ◌∷◌}
use Prim.Native.Nat.{ℕ}
use Rattle.chars.specs.Pick.{pick}
use Rattle.blocks.specs.Moves.{moved_down}

-- five bytes
abbrev pub five : List ℕ
five = 11 ∷ 12 ∷ 13 ∷ 14 ∷ 15 ∷ []

-- two from the middle
pub two-moved : moved_down 2 4 five ≡ 13 ∷ 14 ∷ 13 ∷ 14 ∷ 15 ∷ []
unfolding moved_down pick
two-moved = refl

-- more than lie before them
pub four-moved : moved_down 1 5 five ≡ 12 ∷ 13 ∷ 14 ∷ 15 ∷ 15 ∷ []
unfolding moved_down pick
four-moved = refl

-- none, and all
pub none-moved : moved_down 5 5 five ≡ five
unfolding moved_down pick
none-moved = refl

pub all_moved : moved_down 0 5 five ≡ five
unfolding moved_down pick
all_moved = refl

-- behind the block, and in the other order
pub out-of-block : moved_down 2 6 five ≡ five
unfolding moved_down pick
out-of-block = refl

pub other-order : moved_down 4 2 five ≡ five
unfolding moved_down pick
other-order = refl
