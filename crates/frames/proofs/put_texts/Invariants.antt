use mathlib.Core.Path.{◌≡◌}
use Prim.Native.Nat.{◌+◌, ◌-◌, ◌≤◌}
use lib.Seq.{sets}
use lib.ListN.{length}
use Rattle.frames.specs.Lists.{end_of, text_of}
use Rattle.frames.proofs.put_texts.Given as goal

abbrev pub invariant-loop-i : goal.invariant-loop-i
invariant-loop-i l = (sets l.text l.j (text_of l.f l.p (l.n - l._i)) ≡ sets l.initial.text l.m (text_of l.f l.at l.n)) × (end_of l.f l.p (l.n - l._i) ≡ end_of l.f l.at l.n) × (l.j ≤ l.p) × (l.j + length (text_of l.f l.p (l.n - l._i)) ≡ l.m + length (text_of l.f l.at l.n))
