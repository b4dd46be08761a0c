use Rattle.puts.specs.Numbers.{digits}
use lib.Seq.{sets}
use mathlib.Core.Path.{◌≡◌}
use Rattle.puts.proofs.digits_at.Given as goal

abbrev pub invariant-loop-k : goal.invariant-loop-k
invariant-loop-k l = sets l.out l.at (digits l.k l.rest) ≡ sets l.initial.out l.at (digits l.w l.n)
