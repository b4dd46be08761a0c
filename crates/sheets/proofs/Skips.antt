-- Of a line that is skipped no more is taken than there is. Assumes nothing.
use mathlib.Core.Path.{◌≡◌}
use mathlib.Core.Bool.{Bool}
use mathlib.Core.List.{List}
use Prim.Native.Nat.{ℕ, ◌≤◌}
use lib.ListN.{length}
use Rattle.csv_rows.specs.declared.Skipped.TheVariants.{Ended, On}
use Rattle.csv_rows.specs.Answers.{skipped}
use Rattle.csv_rows.proofs.Lines.{skip-moves, Skips}
use Rattle.csv_rows.proofs.Lines.Skips.{skips_to, skips_on}

pub skip-ended : (last : Bool) (s : List ℕ) {n : ℕ} → skipped last s ≡ Ended n → n ≤ length s
skip-ended last s e = of-ended (rw e at (skip-moves last s)) where
  of-ended : {l : Bool} {t : List ℕ} {n : ℕ} → Skips l t (Ended n) → n ≤ length t
  of-ended (skips_to some within few) = within

pub skip-on : (last : Bool) (s : List ℕ) → skipped last s ≡ On → 65536 ≤ length s
skip-on last s e = of-on (rw e at (skip-moves last s)) where
  of-on : {l : Bool} {t : List ℕ} → Skips l t On → 65536 ≤ length t
  of-on (skips_on h) = h
