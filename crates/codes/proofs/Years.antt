-- Years without a month, as words.
-- Assumes nothing.
use mathlib.Core.Path.{◌≡◌, ap, ◌∙◌}
use mathlib.Core.Bool.{false}
use Prim.Native.Nat.{ℕ, ◌+◌, ◌*◌}
use native.Mathlib.Omega.{arith}
use lib.IntN.{ℤ, pos}
use Rattle.std.specs.Prelude.{None, Ok}
use Rattle.dates.specs.declared.DateValue.TheVariants.{At}
use Rattle.dates.specs.Value.{datetime, date}
use Rattle.codes.specs.Words.{twos, words, words_of}
use Rattle.codes.specs.Ported.{range}

pub at-year : (y : ℤ) → words 0 0 (twos y) 0 0 0 0 ≡ words_of (Ok (date (At (datetime y None None None)) false false))
at-year y = ap (λ (n : ℕ). words 0 0 n 0 0 0 0) (omega arith)

pub between-years : (a b : ℕ) → words 0 0 a 0 b 0 3 ≡ words_of (range (datetime (pos a) None None None) (datetime (pos b) None None None))
unfolding twos
between-years a b = ap (λ (n : ℕ). words 0 0 n 0 b 0 3) (omega arith) ∙ ap (λ (n : ℕ). words 0 0 (a + 4294967296 * 0) 0 n 0 3) (omega arith)
