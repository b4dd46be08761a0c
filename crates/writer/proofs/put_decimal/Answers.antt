use Rattle.puts.specs.Numbers.{decimal, digits}
use Rattle.puts.proofs.Puts.{as-text, fits-as}
use Prim.Native.Nat.{ℕ}
use mathlib.Core.Path.{sym, ap}
use borrow.Author.Rules.{rules}
use Rattle.writer.proofs.put_decimal.Goals as goal

pub returns : goal.returns
unfolding decimal
returns c =
    let e = ap (λ (w : ℕ). digits w c.args.n) (sym c.width-w.ensures.value) in
    as-text e (c.put_digits.ensures.put (fits-as c.args.out.now c.args.at e c.requires.1))
