use mathlib.Core.Path.{◌≡◌, refl, sym, ◌∙◌}
use Prim.Native.Nat.{◌+◌, ◌-◌, ◌≤◌, ◌<◌}
use lib.ListN.{length, drop}
use Rattle.csv_rows.specs.Reader.{inner_len}
use Rattle.csv_rows.proofs.Laws.{is-inside, quote-open, quote-shut, quote-two}
use borrow.Author.Rules.{rules}
use native.Mathlib.Omega.{arith}
use Rattle.csv_rows.proofs.quote_end.Given as goal

abbrev pub invariant-loop-i : goal.invariant-loop-i
invariant-loop-i l = (l.i + inner_len (drop l.i l.s) ≡ l.at + inner_len (drop l.at l.s)) × (l.i ≤ length l.s)

abbrev pub decreases-loop-i : goal.decreases-loop-i
decreases-loop-i l = length l.s - l.i
