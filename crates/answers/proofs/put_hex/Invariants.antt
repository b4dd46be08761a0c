use mathlib.Core.Path.{◌≡◌}
use Prim.Native.Nat.{◌+◌, ◌*◌}
use lib.Seq.{sets}
use lib.ListN.{drop}
use Rattle.answers.specs.Answer.{hex_text}
use Rattle.answers.proofs.put_hex.Given as goal

abbrev pub invariant-loop-i : goal.invariant-loop-i
invariant-loop-i l = sets l.out (l.at + 2 * l.i) (hex_text (drop l.i l.t)) ≡ sets l.initial.out l.at (hex_text l.t)
