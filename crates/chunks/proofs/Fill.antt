-- Filling a buffer: what a run of stores comes to, one behind the other, and in a part that was lent on.
-- Assumes nothing.
use mathlib.Core.Path.{◌≡◌, refl, sym, ap, ◌∙◌}
use mathlib.Core.List.{List, [], ◌∷◌, ◌++◌}
use Prim.Native.Nat.{ℕ, suc, ◌+◌, ◌≤◌}
use native.Mathlib.Nat.{zero-add, add-zero, add-suc, suc-add}
use native.Mathlib.Omega.{arith}
use lib.ListN.{length, set, take, drop, length-append, length-take}
use lib.Seq.{sets, sets-eq, length-sets, take-append_seam, drop_at}

-- two runs of stores, one behind the other
sets-append : (a b l : List ℕ) (n : ℕ) → sets l n (a ++ b) ≡ sets (sets l n a) (n + length a) b
sets-append [] b l n = rw add-zero
sets-append (x ∷ a) b l n = rw (add-suc, ← suc-add) (sets-append a b (set l n x) (suc n))

-- what a buffer comes to if the rest is stored from here on is what it comes to from the start
pub record Filling (buf₀ : List ℕ) (n : ℕ) (all : List ℕ) (buf : List ℕ) (m : ℕ) (rest : List ℕ) : Type 0 where
  pub same : sets buf m rest ≡ sets buf₀ n all
  pub upto : m + length rest ≡ n + length all
  pub long : length buf ≡ length buf₀

pub fill_start : (buf : List ℕ) (n : ℕ) (all : List ℕ) → Filling buf n all buf n all
fill_start buf n all = record { same = refl; upto = refl; long = refl }

module _ {buf₀ : List ℕ} {n : ℕ} {all buf : List ℕ} {m : ℕ} where
  -- a is stored, and the rest is left
  pub fill-put : (a : List ℕ) {rest buf' : List ℕ} {m' : ℕ} → Filling buf₀ n all buf m (a ++ rest) → m' ≡ m + length a → buf' ≡ sets buf m a → Filling buf₀ n all buf' m' rest
  fill-put a {rest} {buf'} {m'} f e g =
      record {
        same = rw (e, g) (sym (sets-append a rest buf m) ∙ f.same);
        upto = omega (arith, f.upto, length-append a rest);
        long = ap length g ∙ length-sets buf m a ∙ f.long;
      }

  -- nothing is left
  pub fill_end : Filling buf₀ n all buf m [] → m ≡ n + length all
  fill_end f = omega (arith, f.upto)

-- a text stored from the start, as a list
pub stored-front : (buf all : List ℕ) → length all ≤ length buf → sets buf 0 all ≡ all ++ drop (length all) buf
stored-front buf all h = sets-eq all buf 0 (omega arith) ∙ ap (λ (n : ℕ). all ++ drop n buf) (zero-add (length all))

-- the front of it
pub held : (buf last all : List ℕ) (n : ℕ) → n ≡ length all → last ≡ sets buf 0 all → n ≤ length buf → take n last ≡ all
held buf last all n e g h = rw (e, g, stored-front buf all (omega arith)) (take-append_seam all (drop (length all) buf))

-- what stands behind what was stored is as it was
pub behind : (a buf : List ℕ) (i : ℕ) → i + length a ≤ length buf → drop (i + length a) (sets buf i a) ≡ drop (i + length a) buf
behind a buf i h =
    ap (drop (i + length a)) (sets-eq a buf i h)
    ∙ drop_at (take i buf ++ a) (drop (i + length a) buf) (i + length a) (omega (arith, length-append (take i buf) a, length-take i buf))
