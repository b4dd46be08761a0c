-- A list, entry by entry. Assumes nothing.
use mathlib.Core.Path.{◌≡◌, sym, ap, ◌∙◌}
use mathlib.Core.List.{List, [], ◌∷◌, ◌++◌, append-nil}
use Prim.Native.Nat.{ℕ, zero, suc, ◌+◌, ◌≤◌}
use native.Mathlib.Omega.{arith}
use lib.ListN.{length, get_or, drop, drop_of_length-le}
use lib.Seq.{drop-cons}

-- so many entries from a place on
abbrev pub bytes_at : ℕ → ℕ → List ℕ → List ℕ
bytes_at zero i s = []
bytes_at (suc k) i s = get_or s i 0 ∷ bytes_at k (suc i) s

pub drop-same : (s : List ℕ) (i j : ℕ) → i ≡ j → drop i s ≡ drop j s
drop-same s i j e = ap (λ (k : ℕ). drop k s) e

-- they stand there, and the rest behind them
pub spelled : (k i : ℕ) (s : List ℕ) → k + i ≤ length s → drop i s ≡ bytes_at k i s ++ drop (k + i) s
spelled zero i s h = drop-same s i (0 + i) (omega arith)
spelled (suc k) i s h =
    drop-cons s i 0 (omega arith)
    ∙ ap (λ (t : List ℕ). get_or s i 0 ∷ t)
    (spelled k (suc i) s (omega arith) ∙ ap (λ (t : List ℕ). bytes_at k (suc i) s ++ t) (drop-same s (k + suc i) (suc k + i) (omega arith)))

-- a list of a known length is its entries
pub entries : (k : ℕ) (s : List ℕ) → length s ≡ k → bytes_at k 0 s ≡ s
entries k s e =
    sym (append-nil (bytes_at k 0 s)) ∙ ap (λ (t : List ℕ). bytes_at k 0 s ++ t) (sym (drop_of_length-le s {i = k + 0} (omega arith))) ∙ sym (spelled k 0 s (omega arith))
