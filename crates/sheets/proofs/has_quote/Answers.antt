use native.Mathlib.Omega.{arith}
use Rattle.sheets.proofs.Owns.{no_quote}
use Rattle.sheets.proofs.has_quote.Goals as goal

pub returns : goal.returns
returns c = λ _. no_quote c.args.s.now (λ k h e. c.loop-b.invariant k (omega arith) e)
