use mathlib.Core.Path.{◌≡◌}
use Prim.Native.Nat.{◌*◌}
use lib.Seq.{sets}
use lib.ListN.{drop}
use Rattle.hexes.specs.Hex.{bytes_of}
use Rattle.hexes.proofs.put_few.Given as goal

abbrev pub invariant-loop-i : goal.invariant-loop-i
invariant-loop-i l = sets l.frame l.i (bytes_of (drop (2 * l.i) l.line)) ≡ sets l.initial.frame 0 (bytes_of l.line)
