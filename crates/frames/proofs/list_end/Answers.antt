use native.Mathlib.Omega.{arith}
use mathlib.Core.Path.{ap, ◌∙◌}
use Prim.Native.Nat.{ℕ, ◌+◌}
use Rattle.frames.specs.Lists.{end_of}
use borrow.Author.Rules.{rules}
use Rattle.frames.proofs.list_end.Goals as goal

pub returns : goal.returns
returns c =
    let e = c.byte_at-n.ensures in
    let q = c.chunks_end.ensures in
    (q.0 ∙ ap (λ (n : ℕ). end_of c.args.f.now (c.args.at + 1) n) e, omega (arith, q.1))
