use mathlib.Core.Path.{◌≡◌}
use Prim.Native.Nat.{◌+◌, ◌-◌, ◌*◌}
use lib.Seq.{sets}
use Rattle.frames.specs.Lists.{end_of, table_of}
use Rattle.frames.proofs.put_rows.Given as goal

abbrev pub invariant-loop-i : goal.invariant-loop-i
invariant-loop-i l = (sets l.table l.j (table_of l.f l.p (l.n - l._i)) ≡ sets l.initial.table l.k (table_of l.f l.at l.n)) × (end_of l.f l.p (l.n - l._i) ≡ end_of l.f l.at l.n) × (l.j ≡ l.k + 4 * l._i)
