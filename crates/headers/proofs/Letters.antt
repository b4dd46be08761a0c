-- The name of a cell, letter by letter. Assumes nothing.
use mathlib.Core.Path.{◌≡◌}
use mathlib.Core.Bool.{true, false}
use mathlib.Core.List.{List}
use Prim.Native.Nat.{ℕ, ◌+◌, ◌≤◌, ◌<◌}
use native.Mathlib.Nat.{add-zero}
use native.Mathlib.Numerals.{add-one}
use native.Mathlib.Omega.{arith}
use borrow.Author.Tests.{eq-eqb, ne_eqb, eqb-true, eqb-false}
use lib.Dec.{eqb}
use lib.ListN.{length, get_or, drop, drop_of_length-le, length-drop}
use lib.Seq.{drop-cons}
use Rattle.chars.specs.Pick.{pick}
use Rattle.chars.proofs.Cases.{of_test}
use Rattle.fields.specs.Names.{lower}
use Rattle.headers.specs.Names.{is_space, spaces, starts_so}

module _ (s : List ℕ) (i : ℕ) where
  -- the text is over
  pub spaces-end : length s ≤ i → i ≡ i + spaces (drop i s)
  unfolding spaces
  spaces-end h = rw (drop_of_length-le s h, add-zero i)

  module _ (h : i < length s) where
    -- one more
    pub spaces-on : is_space (get_or s i 0) ≡ true → i + 1 + spaces (drop (i + 1) s) ≡ i + spaces (drop i s)
    unfolding spaces pick
    spaces-on e = rw (drop-cons s i 0 h, e, add-one i) (omega arith)

    -- or another byte
    pub spaces-stop : is_space (get_or s i 0) ≡ false → i ≡ i + spaces (drop i s)
    unfolding spaces pick
    spaces-stop e = rw (drop-cons s i 0 h, e, add-zero i)

module _ (name s : List ℕ) (k i : ℕ) where
  -- the name is over: only spaces and tabs may follow
  pub so-end : length name ≤ k → starts_so (drop k name) (drop i s) ≡ eqb (spaces (drop i s)) (length (drop i s))
  unfolding starts_so
  so-end h = rw (drop_of_length-le name h)

  module _ (h : k < length name) where
    -- the cell is over before the name is
    pub so-short : i ≡ length s → starts_so (drop k name) (drop i s) ≡ false
    unfolding starts_so
    so-short l = rw (drop-cons name k 0 h, drop_of_length-le s {i = i} (omega arith))

    module _ (b : ℕ) (l : i < length s) (e : b ≡ lower (get_or s i 0)) where
      -- another letter
      pub so-not : (get_or name k 0 ≡ b → ⊥) → starts_so (drop k name) (drop i s) ≡ false
      unfolding starts_so
      so-not n = rw (drop-cons name k 0 h, drop-cons s i 0 l, ← e, ne_eqb _ _ n)

      -- the same letter: on behind it
      pub so-on : get_or name k 0 ≡ b → starts_so (drop k name) (drop i s) ≡ starts_so (drop (k + 1) name) (drop (i + 1) s)
      unfolding starts_so
      so-on n = rw (add-one k, add-one i, drop-cons name k 0 h, drop-cons s i 0 l, ← e, eq-eqb _ _ n)

-- only spaces and tabs from a place on
pub so-all : (s : List ℕ) (i : ℕ) → i ≤ length s → {r : ℕ} → r ≡ i + spaces (drop i s) → eqb r (length s) ≡ eqb (spaces (drop i s)) (length (drop i s))
so-all s i h {r} e =
    of_test (eqb (spaces (drop i s)) (length (drop i s)))
    (λ q. let k = eqb-true (spaces (drop i s)) (length (drop i s)) q in rw (q, eq-eqb r (length s) (omega (arith, length-drop i s))))
    (λ q. rw (q, ne_eqb r (length s) (λ x. eqb-false (spaces (drop i s)) (length (drop i s)) q (omega (arith, length-drop i s)))))
