use Rattle.chunks.specs.Chunks.{chunks_of, lengths}
use lib.Dec.{eqb}
use lib.ListN.{drop}
use Prim.Native.Nat.{◌*◌}
use mathlib.Core.Path.{◌≡◌}
use Rattle.pages.proofs.lengths_fit.Given as goal

-- what is left of the bytes is the sum of the lengths that are left, if that is so from the start
abbrev pub invariant-loop-k : goal.invariant-loop-k
invariant-loop-k l = eqb (lengths (chunks_of (drop (4 * l.k) l.table))) l.left ≡ eqb (lengths (chunks_of l.table)) l.bytes
