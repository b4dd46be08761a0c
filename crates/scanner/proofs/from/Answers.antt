use Prim.Native.Nat.{◌-◌, ℕ}
use lib.ListN.{length}
use Rattle.scanner.proofs.Parts.{part-rest, part-past, part_none}
use Rattle.scanner.specs.Scan.{part}
use native.Mathlib.Omega.{arith}
use mathlib.Core.Path.{refl}
use Rattle.scanner.proofs.from.Goals as goal

pub returns-then-n-a : goal.returns-then-n-a
returns-then-n-a c = let a = c.args in let n : ℕ = length a.s.now in part-past a.s.now a.start.0 a.c.0 n (n - n) (omega arith) (omega arith)

pub returns-then-e-a : goal.returns-then-e-a
returns-then-e-a c = let a = c.args in let p : ℕ = a.start.0 in part_none a.s.now p a.c.0 (p - p) (omega arith) (omega arith)

pub returns-then-n-e : goal.returns-then-n-e
returns-then-n-e c = part-rest _ _ _ (omega arith)

pub returns : goal.returns
unfolding part
returns c = refl
