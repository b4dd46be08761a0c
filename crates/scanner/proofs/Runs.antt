-- What `next_run` says of the two places that it returns.
-- Assumes nothing.
use Prim.Native.Nat.{ℕ}
use mathlib.Core.Path.{◌≡◌, ap, sym, ◌∙◌}
use mathlib.Core.List.{List}
use Rattle.scanner.specs.declared.Class.{Class}
use Rattle.scanner.specs.declared.Class.TheVariants.{Whitespace}
use Rattle.scanner.specs.declared.Run.{Run}
use Rattle.scanner.specs.Scan.{eat_while, run_at, next_run}

-- the run starts behind the white space
pub run-start : (k : Class) (s : List ℕ) (at : ℕ) (r : Run) → r ≡ next_run k s at → r.start.0 ≡ eat_while Whitespace s at
unfolding next_run run_at
run-start k s at r e = ap (λ (x : Run). x.start.0) e

-- and ends where the characters of the class do
pub run_end : (k : Class) (s : List ℕ) (at : ℕ) (r : Run) → r ≡ next_run k s at → r.end.0 ≡ eat_while k s r.start.0
unfolding next_run run_at
run_end k s at r e = ap (λ (x : Run). x.end.0) e ∙ ap (eat_while k s) (sym (run-start k s at r e))
