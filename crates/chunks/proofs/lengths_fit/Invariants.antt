use Rattle.chunks.specs.Chunks.{chunks_of}
use Rattle.chunks.proofs.Lengths.{fits_in}
use lib.ListN.{drop}
use Prim.Native.Nat.{◌*◌}
use mathlib.Core.Path.{◌≡◌}
use Rattle.chunks.proofs.lengths_fit.Given as goal

-- what is left of the bytes is the sum of the lengths that are left, if that is so from the start
abbrev pub invariant-loop-k : goal.invariant-loop-k
invariant-loop-k l = fits_in l.left (chunks_of (drop (4 * l.k) l.table)) ≡ fits_in l.bytes (chunks_of l.table)
