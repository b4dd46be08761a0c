-- The count of leading one bits gives a character's length, and the code's count is that one. Assumes nothing.
use mathlib.Core.Path.{◌≡◌}
use Prim.Native.Nat.{ℕ, ◌-◌, ◌<◌}
use lib.Count.{count_leading_zeros}
use Rattle.chars.specs.Pick.{pick}
use Rattle.chars.specs.Utf8.{len_of, ones_from, leading_ones, len_by_ones}
use Rattle.chars.proofs.Below.{agree}

-- the length that the ranges of a first byte say is the one that its leading one bits say
pub len-by-ones : (b : ℕ) → b < 256 → len_of b ≡ len_by_ones (leading_ones b)
unfolding len_of ones_from leading_ones len_by_ones pick
len-by-ones b h = agree len_of (λ b. len_by_ones (leading_ones b)) 256 tt b h

-- the leading zeros of the inverted byte are its leading ones
pub inverted : (b : ℕ) → b < 256 → count_leading_zeros 8 (255 - b) ≡ leading_ones b
unfolding count_leading_zeros ones_from leading_ones pick
inverted b h = agree (λ b. count_leading_zeros 8 (255 - b)) leading_ones 256 tt b h
