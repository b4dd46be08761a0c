use mathlib.Core.Path.{ap}
use Prim.Native.Nat.{ℕ}
use lib.Dec.{eqb}
use lib.ListN.{length}
use borrow.Author.Rules.{rules}
use Rattle.frames.proofs.one_fills.Goals as goal

pub returns : goal.returns
returns c =
    ap (λ (n : ℕ). eqb n (length c.args.f.now)) c.list_end.ensures.0
